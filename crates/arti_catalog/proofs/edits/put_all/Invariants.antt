use Rattle.std.proofs.Common.{◌≡◌, ◌+◌, ℕ, drop, length}
use Rattle.std.specs.Vec.Iter.{into_iter_items}
use Rattle.arti_catalog.specs.Held.{at, put_at}
use Rattle.arti_catalog.proofs.edits.put_all.Given as goal

abbrev pub invariant-loop-new : goal.invariant-loop-new
invariant-loop-new l = record {
  can : (goal.iterator-loop-new).can_next l.new-iterator;
  finite : (goal.iterator-loop-new).is_finite l.new-iterator;
  left : l.place + length (into_iter_items l.new-iterator) ≡ length l.ids;
  each : (i : ℕ) → put_at (drop l.place l.ids) (into_iter_items l.new-iterator) (at l.rows) i ≡ put_at l.ids l.fn.news.items (at l.fn.rows) i;
}
