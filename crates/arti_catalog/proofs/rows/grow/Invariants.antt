use Rattle.std.proofs.Common.{◌≡◌, ℕ, ◌+◌, ◌-◌, None, slice_index_or, length}
use Rattle.arti_catalog.proofs.rows.grow.Given as goal

abbrev pub invariant-loop-slots : goal.invariant-loop-slots
invariant-loop-slots l = (i : ℕ) → slice_index_or l.slots.items i None ≡ slice_index_or l.fn.slots.items i None

abbrev pub decreases-loop-slots : goal.decreases-loop-slots
decreases-loop-slots l = l.id + 1 - length l.slots.items
