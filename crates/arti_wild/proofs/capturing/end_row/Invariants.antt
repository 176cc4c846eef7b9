use Rattle.std.proofs.Common.{◌≡◌, ◌<◌, ℕ, length, false, get_or, nat_eq}
use Rattle.arti_wild.proofs.capturing.end_row.Given as goal

abbrev pub invariant-places : goal.invariant-places
invariant-places l = (length l.row.items ≡ l.place) × ((k : ℕ) → k < l.place → get_or l.row.items k false ≡ nat_eq k l.len)
