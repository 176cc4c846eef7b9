use Rattle.std.proofs.Common.{◌≡◌, ℕ, List, Some, option_map, sym, ap, ◌∙◌, subst}
use Rattle.std.specs.List.{filter}
use Rattle.arti_rows.specs.Key.{Key}
use Rattle.arti_tree.specs.Rows.{Row, ids, row_at, lies_in}
use Rattle.arti_tree.specs.Slots.{live, at}
use Rattle.arti_tree.specs.Kept.{inside}
use Rattle.arti_tree.proofs.Folders.{at_id, no_row_at, none_in, filter_none}
use Rattle.arti_tree.specs.Ids.{AscendFrom}
use Rattle.arti_tree.specs.Children.{list_at}
use Rattle.arti_tree.specs.Repos.{list_of}
use Rattle.arti_tree.proofs.Adding.{children_ascend}
use Rattle.arti_tree.proofs.Looks.{kept_as}
use Rattle.arti_tree.proofs.tree.Tree.children.Goals as goal

pub returns-in-Some-clause-rows : goal.returns-in-Some-clause-rows
returns-in-Some-clause-rows c =
    let t = c.self.inside in
    let rows = live 0 t.slots.items in
    let k : Key = c.args.key.now in
    let a = at_id rows k c.in-Some.id c.self.invariant.tree.ascend (c.in-Some.ensures ∙ ap (λ (l : List Row). option_map (λ (r : Row). r.id) (row_at l k)) (sym c.self.view_is)) in
    let s = kept_as t.slots.items a.row a.live in
    let there : at t.slots.items c.in-Some.id ≡ Some s.slot = ap (at t.slots.items) (sym a.is) ∙ s.there in
    let same : s.slot.key ≡ k = ap (λ (r : Row). r.key) s.same ∙ a.same in
    c.listed.ensures ∙ c.self.invariant.children_are c.in-Some.id ∙ ap (inside rows) there ∙ ap (λ (x : Key). ids (filter (lies_in x) rows)) same ∙ ap (λ (l : List Row). ids (filter (lies_in k) l)) c.self.view_is

pub returns-in-None-clause-rows : goal.returns-in-None-clause-rows
returns-in-None-clause-rows c =
    let t = c.self.inside in
    let rows = live 0 t.slots.items in
    let k : Key = c.args.key.now in
    let none = no_row_at rows k (c.in-None.ensures ∙ ap (λ (l : List Row). option_map (λ (r : Row). r.id) (row_at l k)) (sym c.self.view_is)) in
    sym (ap (λ (l : List Row). ids (filter (lies_in k) l)) (sym c.self.view_is) ∙ ap ids (filter_none (lies_in k) rows (none_in rows k c.self.invariant.tree none)))

pub returns-in-Some-clause-ascend : goal.returns-in-Some-clause-ascend
returns-in-Some-clause-ascend c =
    let t = c.self.inside in
    subst (λ (l : List ℕ). AscendFrom 0 l) (sym c.listed.ensures) (children_ascend t.slots.items t.all.items t.order.items (list_at t.children) (list_of t.repos) c.self.invariant c.in-Some.id)
