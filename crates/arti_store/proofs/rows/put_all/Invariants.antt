use Rattle.std.specs.Vec.Iter.{into_iter_items}
use Rattle.arti_store.specs.Places.{Putting}
use Rattle.arti_store.proofs.rows.put_all.Given as goal

abbrev pub invariant-loop-new : goal.invariant-loop-new
invariant-loop-new l =
    (goal.iterator-loop-new).can_next l.new-iterator × (goal.iterator-loop-new).is_finite l.new-iterator
    × Putting l.fn.news.items l.fn.rows.items (into_iter_items l.new-iterator) l.rows
