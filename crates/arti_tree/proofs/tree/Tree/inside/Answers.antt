use Rattle.std.proofs.Common.{◌≡◌, ℕ, List, Option, Some, None, option_map, sym, ap, ◌∙◌, subst}
use Rattle.std.specs.List.{filter}
use Rattle.arti_rows.specs.Key.{Key}
use Rattle.arti_tree.specs.declared.slot.Slot.{Slot}
use Rattle.arti_tree.specs.Rows.{Row, ids, row_of, lies_in}
use Rattle.arti_tree.specs.Slots.{live, at, row_with}
use Rattle.arti_tree.specs.Kept.{inside}
use Rattle.arti_tree.specs.Ids.{AscendFrom}
use Rattle.arti_tree.specs.Children.{list_at}
use Rattle.arti_tree.specs.Repos.{list_of}
use Rattle.arti_tree.proofs.Adding.{children_ascend}
use Rattle.arti_tree.proofs.Lives.{row_of_live}
use Rattle.arti_tree.proofs.tree.Tree.inside.Goals as goal

by_slot : (rows : List Row) (id : ℕ) (k : Key) (o : Option Slot) → option_map (λ (r : Row). r.key) (option_map (row_with id) o) ≡ Some k → inside rows o ≡ ids (filter (lies_in k) rows)
by_slot rows id k None e = cc
by_slot rows id k (Some s) e = let same : s.key ≡ k = cc in ap (λ (x : Key). ids (filter (lies_in x) rows)) same

pub returns-clause-rows : goal.returns-clause-rows
returns-clause-rows c =
    let t = c.self.inside in
    let rows = live 0 t.slots.items in
    let id : ℕ = c.args.id in
    let k : Key = c.args.key.now in
    let there = sym (ap (option_map (λ (r : Row). r.key)) (row_of_live id t.slots.items)) ∙ ap (λ (l : List Row). option_map (λ (r : Row). r.key) (row_of l id)) c.self.view_is ∙ c.requires in
    c.listed.ensures ∙ c.self.invariant.children_are id ∙ by_slot rows id k (at t.slots.items id) there ∙ ap (λ (l : List Row). ids (filter (lies_in k) l)) c.self.view_is

pub returns-clause-ascend : goal.returns-clause-ascend
returns-clause-ascend c =
    let t = c.self.inside in
    subst (λ (l : List ℕ). AscendFrom 0 l) (sym c.listed.ensures) (children_ascend t.slots.items t.all.items t.order.items (list_at t.children) (list_of t.repos) c.self.invariant c.args.id)
