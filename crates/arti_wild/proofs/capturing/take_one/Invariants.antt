use Rattle.std.proofs.Common.{◌≡◌, ◌<◌, ◌≤◌, ◌+◌, ◌&&◌, ℕ, length, drop, false, get_or}
use Rattle.arti_wild.specs.Splits.{takes_first}
use Rattle.arti_wild.proofs.capturing.take_one.Given as goal

abbrev pub invariant-places : goal.invariant-places
invariant-places l = record {
  len : length l.row ≡ length l.initial.row;
  done : (k : ℕ) → k < l.place → get_or l.row k false ≡ (takes_first l.part (drop k l.text) && get_or l.initial.row (k + 1) false);
  left : (k : ℕ) → l.place ≤ k → get_or l.row k false ≡ get_or l.initial.row k false;
}
