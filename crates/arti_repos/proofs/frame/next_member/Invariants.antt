use Rattle.std.proofs.Common.{length}
use Rattle.arti_repos.proofs.Framing.{Leaves}
use Rattle.arti_repos.proofs.frame.next_member.Given as goal

abbrev pub invariant-finished : goal.invariant-finished
invariant-finished l = Leaves l.fn.frames.items l.frames.items

abbrev pub decreases-finished : goal.decreases-finished
decreases-finished l = length l.frames.items
