use Rattle.std.proofs.Common.{◌≡◌, ℕ, None, cond, drop}
use Rattle.arti_tree.specs.Rows.{without_rows}
use Rattle.arti_tree.specs.Slots.{at, live}
use Rattle.arti_tree.specs.Kept.{Ordered}
use Rattle.arti_tree.specs.Renames.{has, Differ}
use Rattle.arti_tree.proofs.Leaving.{ToGo}
use Rattle.arti_tree.proofs.removing.fell_all.Given as goal

abbrev pub invariant-loop-id : goal.invariant-loop-id
invariant-loop-id l = record {
  to_go : ToGo l.slots.items (drop l.id-index l.ids);
  rows : without_rows (drop l.id-index l.ids) (live 0 l.slots.items) ≡ without_rows l.ids (live 0 l.fn.slots.items);
  each : (i : ℕ) → cond (has (drop l.id-index l.ids) i) None (at l.slots.items i) ≡ cond (has l.ids i) None (at l.fn.slots.items i);
  differ : Differ (live 0 l.slots.items);
  order : Ordered (live 0 l.slots.items) l.order.items;
}
