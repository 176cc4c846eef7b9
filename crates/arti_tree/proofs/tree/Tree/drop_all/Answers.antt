use Rattle.std.proofs.Common.{◌≡◌, ℕ, List, [], Bool, true, false, Option, Some, None, refl, sym, ap, ◌∙◌, subst, cond, rules}
use Rattle.std.specs.Prelude.{IsSome, nat_eq}
use Rattle.std.specs.Option.{option_map_or}
use Rattle.std.specs.Cmp.Lexicographic.{pointwise}
use Rattle.arti_tree.specs.declared.slot.Slot.{Slot}
use Rattle.arti_tree.specs.Ids.{without_id}
use Rattle.arti_tree.specs.Shifts.{without_ids}
use Rattle.arti_tree.specs.Rows.{Row, row_of, folder_id}
use Rattle.arti_tree.specs.Slots.{at, live, row_with, is_it}
use Rattle.arti_tree.specs.Repos.{list_of}
use Rattle.arti_tree.specs.Renames.{has, is_within, AreWithin, without_within}
use Rattle.arti_tree.specs.Children.{list_at}
use Rattle.arti_tree.proofs.Looks.{live_in}
use Rattle.arti_tree.proofs.Adding.{all_ascend, children_ascend, repo_ascends}
use Rattle.arti_tree.proofs.Dropping.{no_slot, if_some_at}
use Rattle.arti_tree.proofs.Leaving.{kept_left, rows_now}
use Rattle.arti_tree.proofs.tree.Tree.drop_all.Goals as goal

some_by : (p : Row → Bool) (o : Option Row) → option_map_or p o false ≡ true → IsSome o
some_by p None e = cc
some_by p (Some r) e = refl

slot_there : (slots : List (Option Slot)) (i : ℕ) (o : Option Slot) → at slots i ≡ o → IsSome (row_of (live 0 slots) i) → IsSome o
slot_there slots i None e some = absurd (no_slot slots i e some)
slot_there slots i (Some s) e some = refl

pub unreachable-requires : goal.unreachable-requires
unreachable-requires c =
    let t = c.self.inside in
    no_slot t.slots.items c.args.id (ap (λ (l : List (Option Slot)). at l c.args.id) (sym c.deref.ensures.value) ∙ sym c.in_default.ensures) (subst (λ (l : List Row). IsSome (row_of l c.args.id)) (sym c.self.view_is) c.requires.live)

pub leave_ascending-requires-clause-ascend : goal.leave_ascending-requires-clause-ascend
leave_ascending-requires-clause-ascend c =
    let t = c.self.inside in
    repo_ascends t.slots.items t.all.items t.order.items (list_at t.children) (list_of t.repos) c.self.invariant c.as_str.result.now

pub leave_folder-requires : goal.leave_folder-requires
leave_folder-requires c =
    let t = c.self.inside in
    children_ascend t.slots.items t.all.items t.order.items (list_at t.children) (list_of t.repos) c.self.invariant

pub drop_ascending-requires-clause-ascend : goal.drop_ascending-requires-clause-ascend
drop_ascending-requires-clause-ascend c =
    let t = c.self.inside in
    all_ascend t.slots.items t.all.items t.order.items (list_at t.children) (list_of t.repos) c.self.invariant

pub fell_all-requires-clause-live : goal.fell_all-requires-clause-live
fell_all-requires-clause-live c = λ i e.
    let t = c.self.inside in
    let s : Slot = c.in-Some.slot.now in
    let there : at t.slots.items c.args.id ≡ Some s = ap (λ (l : List (Option Slot)). at l c.args.id) (sym c.deref.ensures.value) ∙ sym c.in-Some.ensures in
    let row : row_of c.args.self.now c.args.id ≡ Some (row_with c.args.id s) = ap (λ (l : List Row). row_of l c.args.id) (sym c.self.view_is) ∙ live_in t.slots.items c.args.id s there in
    let within : AreWithin c.args.self.now s.key c.args.ids.now = if_some_at (row_of c.args.self.now c.args.id) (row_with c.args.id s) (λ r. AreWithin c.args.self.now r.key c.args.ids.now) row c.requires.within in
    let found : IsSome (row_of c.args.self.now i) = some_by (λ r. is_within s.key r.key) (row_of c.args.self.now i) (sym (within.each i) ∙ e) in
    slot_there t.slots.items i (at t.slots.items i) refl (subst (λ (l : List Row). IsSome (row_of l i)) (sym c.self.view_is) found)

pub invariant_of-self : goal.invariant_of-self
invariant_of-self c =
    let t = c.self.inside in
    let rows = live 0 t.slots.items in
    let id : ℕ = c.args.id in
    let s : Slot = c.in-Some.slot.now in
    let gone : List ℕ = c.args.ids.now in
    let there : at t.slots.items id ≡ Some s = ap (λ (l : List (Option Slot)). at l id) (sym c.deref.ensures.value) ∙ sym c.in-Some.ensures in
    let row : row_of c.args.self.now id ≡ Some (row_with id s) = ap (λ (l : List Row). row_of l id) (sym c.self.view_is) ∙ live_in t.slots.items id s there in
    let within : AreWithin c.args.self.now s.key gone = if_some_at (row_of c.args.self.now id) (row_with id s) (λ r. AreWithin c.args.self.now r.key gone) row c.requires.within in
    let folder : c.folder_under-folder.result ≡ folder_id rows s.key = if_some_at (row_of c.args.self.now id) (row_with id s) (λ r. c.folder_under-folder.result ≡ folder_id c.args.self.now r.key) row c.folder_under-folder.ensures ∙ ap (λ (l : List Row). folder_id l s.key) (sym c.self.view_is) in
    let repo : c.as_str.result.now ≡ s.key.repo = search rules in
    kept_left t.slots.items c.fell_all.new.slots.items s id t.all.items t.order.items (list_at t.children) (list_at c.drop_lists.new.children) (list_of t.repos) (list_of c.leave_ascending.new.repos) c.self.invariant
    there gone (subst (λ (l : List Row). AreWithin l s.key gone) (sym c.self.view_is) within)
    c.fell_all.ensures.rows c.fell_all.ensures.each
    (λ i. c.drop_lists.ensures i ∙ ap (λ (l : List ℕ). cond (has gone i) [] l) (c.leave_folder.ensures.less i ∙ ap (λ (f : Option ℕ). cond (is_it f i) (without_id id (list_at t.children i)) (list_at t.children i)) folder))
    c.drop_ascending.new.ids.items c.fell_all.new.order.items c.drop_ascending.ensures c.fell_all.ensures.order
    (λ q. c.leave_ascending.ensures q ∙ ap (λ (r : List ℕ). cond (pointwise nat_eq q r) (without_ids gone (list_of t.repos q)) (list_of t.repos q)) repo)

pub returns : goal.returns
returns c =
    let t = c.self.inside in
    let rows = live 0 t.slots.items in
    let id : ℕ = c.args.id in
    let s : Slot = c.in-Some.slot.now in
    let gone : List ℕ = c.args.ids.now in
    let there : at t.slots.items id ≡ Some s = ap (λ (l : List (Option Slot)). at l id) (sym c.deref.ensures.value) ∙ sym c.in-Some.ensures in
    let row : row_of c.args.self.now id ≡ Some (row_with id s) = ap (λ (l : List Row). row_of l id) (sym c.self.view_is) ∙ live_in t.slots.items id s there in
    let within : AreWithin c.args.self.now s.key gone = if_some_at (row_of c.args.self.now id) (row_with id s) (λ r. AreWithin c.args.self.now r.key gone) row c.requires.within in
    let folder : c.folder_under-folder.result ≡ folder_id rows s.key = if_some_at (row_of c.args.self.now id) (row_with id s) (λ r. c.folder_under-folder.result ≡ folder_id c.args.self.now r.key) row c.folder_under-folder.ensures ∙ ap (λ (l : List Row). folder_id l s.key) (sym c.self.view_is) in
    rows_now t.slots.items c.fell_all.new.slots.items s id t.all.items t.order.items (list_at t.children) (list_at c.drop_lists.new.children) (list_of t.repos) (list_of c.leave_ascending.new.repos) c.self.invariant
    there gone (subst (λ (l : List Row). AreWithin l s.key gone) (sym c.self.view_is) within)
    c.fell_all.ensures.rows c.fell_all.ensures.each
    (λ i. c.drop_lists.ensures i ∙ ap (λ (l : List ℕ). cond (has gone i) [] l) (c.leave_folder.ensures.less i ∙ ap (λ (f : Option ℕ). cond (is_it f i) (without_id id (list_at t.children i)) (list_at t.children i)) folder))
    ∙ ap (λ (l : List Row). without_within l id) c.self.view_is
