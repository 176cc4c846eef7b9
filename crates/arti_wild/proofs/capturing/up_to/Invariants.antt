use Rattle.std.proofs.Common.{◌≡◌, ◌<◌, ℕ, length, false, get_or}
use Rattle.std.specs.Prelude.{nat_le}
use Rattle.arti_wild.proofs.capturing.up_to.Given as goal

abbrev pub invariant-places : goal.invariant-places
invariant-places l = (length l.row ≡ length l.initial.row) × ((k : ℕ) → k < l.place → get_or l.row k false ≡ nat_le k l.last)
