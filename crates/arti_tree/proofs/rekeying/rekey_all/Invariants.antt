use Rattle.std.proofs.Common.{◌≡◌, ◌≤◌, length, drop}
use Rattle.std.specs.Vec.Iter.{into_iter_items}
use Rattle.arti_tree.specs.Slots.{live}
use Rattle.arti_tree.specs.Kept.{Ordered}
use Rattle.arti_tree.specs.Renames.{Rekeying}
use Rattle.arti_tree.proofs.rekeying.rekey_all.Given as goal

abbrev pub invariant-loop-key : goal.invariant-loop-key
invariant-loop-key l =
    (goal.iterator-loop-key).can_next l.key-iterator × (goal.iterator-loop-key).is_finite l.key-iterator
    × Rekeying (live 0 l.fn.slots.items) l.fn.ids l.fn.keys.items (live 0 l.slots.items) (drop l.i l.ids) (into_iter_items l.key-iterator)
    × Ordered (live 0 l.slots.items) l.order.items
    × (length (into_iter_items l.key-iterator) ≤ l.order.room)
    × (length l.slots.items ≡ length l.fn.slots.items)
