use Rattle.std.proofs.Common.{◌≡◌, ℕ, ◌-◌, ◌<◌, ◌≤◌, length, slice_index}
use Rattle.std.specs.declared.cmp.Ordering.TheVariants.{Less, Greater}
use Rattle.arti_rows.specs.Key.{key_cmp}
use Rattle.arti_tree.specs.Slots.{key_at}
use Rattle.arti_tree.specs.Searched.{key}
use Rattle.arti_tree.proofs.searching.place_of.Given as goal

abbrev pub invariant-places : goal.invariant-places
invariant-places l = record {
  range : l.low ≤ l.high;
  within : l.high ≤ length l.order.items;
  before : (k : ℕ) → k < l.low → key_cmp (key_at l.slots (slice_index l.order.items k)) (key l.repo l.path l.name) ≡ Less;
  behind : (k : ℕ) → l.high ≤ k → k < length l.order.items → key_cmp (key_at l.slots (slice_index l.order.items k)) (key l.repo l.path l.name) ≡ Greater;
}

abbrev pub decreases-places : goal.decreases-places
decreases-places l = l.high - l.low
