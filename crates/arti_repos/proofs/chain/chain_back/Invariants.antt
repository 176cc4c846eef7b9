use Rattle.std.proofs.Common.{◌+◌, length}
use Rattle.arti_repos.specs.Frames.{pending}
use Rattle.arti_repos.specs.Met.{owed}
use Rattle.arti_repos.proofs.Searching.{Searching}
use Rattle.arti_repos.proofs.chain.chain_back.Given as goal

abbrev pub invariant-members : goal.invariant-members
invariant-members l = Searching l.definitions l.def l.frames.items l.met.items

abbrev pub decreases-members : goal.decreases-members
decreases-members l = owed l.definitions l.met.items + length (pending l.frames.items)
