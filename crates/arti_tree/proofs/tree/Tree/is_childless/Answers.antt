use Rattle.std.proofs.Common.{◌≡◌, false, List, length, Option, Some, None, sym, ap, ◌∙◌, rules, eqb}
use Rattle.std.specs.Option.{option_map_or, is_none}
use Rattle.std.specs.List.{find}
use Rattle.arti_tree.specs.declared.slot.Slot.{Slot}
use Rattle.arti_tree.specs.Rows.{Row, row_of, lies_in}
use Rattle.arti_tree.specs.Slots.{at, live}
use Rattle.arti_tree.proofs.Folders.{childless, not_there}
use Rattle.arti_tree.proofs.tree.Tree.is_childless.Goals as goal

pub returns-in-Some : goal.returns-in-Some
returns-in-Some c =
    let t = c.self.inside in
    let s : Slot = c.in-Some.field-0.now in
    let there : at t.slots.items c.args.id ≡ Some s = ap (λ (l : List (Option Slot)). at l c.args.id) (sym c.deref.ensures.value) ∙ sym c.in-Some.ensures in
    let none : c.is_empty.result ≡ eqb (length c.listed.result.now) 0 = search rules in
    none ∙ childless t.slots.items c.args.id c.listed.result.now s there (c.listed.ensures ∙ c.self.invariant.children_are c.args.id) ∙ ap (λ (l : List Row). option_map_or (λ (r : Row). is_none (find (lies_in r.key) l)) (row_of l c.args.id) false) c.self.view_is

pub returns-in-None : goal.returns-in-None
returns-in-None c =
    let t = c.self.inside in
    let there : at t.slots.items c.args.id ≡ None = ap (λ (l : List (Option Slot)). at l c.args.id) (sym c.deref.ensures.value) ∙ sym c.in-None.ensures in
    not_there t.slots.items c.args.id (λ r. is_none (find (lies_in r.key) (live 0 t.slots.items))) there ∙ ap (λ (l : List Row). option_map_or (λ (r : Row). is_none (find (lies_in r.key) l)) (row_of l c.args.id) false) c.self.view_is
