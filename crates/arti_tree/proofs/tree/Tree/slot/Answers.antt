use Rattle.std.proofs.Common.{List, Option, ap, ◌∙◌}
use Rattle.arti_tree.specs.declared.slot.Slot.{Slot}
use Rattle.arti_tree.specs.Rows.{Row, row_of}
use Rattle.arti_tree.specs.Slots.{at}
use Rattle.arti_tree.proofs.Looks.{seen_row}
use Rattle.arti_tree.proofs.tree.Tree.slot.Goals as goal

pub returns : goal.returns
returns c =
    seen_row c.self.inside.slots.items c.args.id c.slot_of.result (c.slot_of.ensures ∙ ap (λ (l : List (Option Slot)). at l c.args.id) c.deref.ensures.value) ∙ ap (λ (l : List Row). row_of l c.args.id) c.self.view_is
