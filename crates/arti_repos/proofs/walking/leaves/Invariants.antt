use Rattle.std.proofs.Common.{◌≡◌, ◌+◌, length}
use Rattle.arti_repos.specs.Frames.{pending}
use Rattle.arti_repos.specs.Met.{owed}
use Rattle.arti_repos.specs.Visits.{values}
use Rattle.arti_repos.proofs.Passing.{Walked}
use Rattle.arti_repos.proofs.walking.leaves.Given as goal

abbrev pub invariant-members : goal.invariant-members
invariant-members l = (length l.met.items ≡ length l.definitions) × Walked l.definitions l.key l.met.items (pending l.frames.items) (values l.found.items)

abbrev pub decreases-members : goal.decreases-members
decreases-members l = owed l.definitions l.met.items + length (pending l.frames.items)
