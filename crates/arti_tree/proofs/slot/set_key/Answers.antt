use Rattle.std.proofs.Common.{◌≡◌, ◌+◌, List, Option, Some, None, option_map, sym, ap, ◌∙◌, arith}
use Rattle.arti_tree.specs.declared.slot.Slot.{Slot}
use Rattle.arti_tree.specs.Renames.{rekeyed}
use Rattle.arti_tree.specs.Slots.{at, live, row_with}
use Rattle.arti_tree.proofs.Lives.{row_of_live}
use Rattle.arti_tree.proofs.Looks.{slot_within}
use Rattle.arti_tree.proofs.Rekeys.{rekeyed_none, live_rekeyed}
use Rattle.arti_tree.proofs.slot.set_key.Goals as goal

pub returns-in_default-clause-rows : goal.returns-in_default-clause-rows
returns-in_default-clause-rows c =
    let slots = c.args.slots.now.items in
    let none : at slots c.args.id ≡ None = ap (λ (l : List (Option Slot)). at l c.args.id) (sym c.deref.ensures.value) ∙ sym c.in_default.ensures in
    sym (rekeyed_none c.args.id c.args.key (live 0 slots) (row_of_live c.args.id slots ∙ ap (option_map (row_with c.args.id)) none))

pub returns-clause-rows : goal.returns-clause-rows
returns-clause-rows c =
    let slots = c.args.slots.now.items in
    let s : Slot = c.in-Some.slot.now in
    let there : at slots c.args.id ≡ Some s = ap (λ (l : List (Option Slot)). at l c.args.id) (sym c.deref.ensures.value) ∙ sym c.in-Some.ensures in
    let e : 0 + c.args.id ≡ c.args.id = omega arith in
    live_rekeyed 0 c.args.id slots s c.args.key (slot_within slots c.args.id s there) there ∙ ap (λ k. rekeyed k c.args.key (live 0 slots)) e
