use Rattle.std.proofs.Common.{◌≡◌, ◌<◌, ◌≤◌, ℕ, length, false, get_or}
use Rattle.arti_wild.proofs.capturing.last_place.Given as goal

abbrev pub invariant-back : goal.invariant-back
invariant-back l = (l.i ≤ length l.row) × ((k : ℕ) → l.i ≤ k → k < length l.row → get_or l.row k false ≡ false)

abbrev pub decreases-back : goal.decreases-back
decreases-back l = l.i
