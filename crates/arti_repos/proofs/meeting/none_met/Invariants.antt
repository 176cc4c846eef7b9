use Rattle.std.proofs.Common.{◌≡◌, length, false}
use Rattle.std.specs.Prelude.{All}
use Rattle.arti_repos.proofs.meeting.none_met.Given as goal

abbrev pub invariant-loop-place : goal.invariant-loop-place
invariant-loop-place l = (length l.met.items ≡ l.place) × All (λ b. b ≡ false) l.met.items
