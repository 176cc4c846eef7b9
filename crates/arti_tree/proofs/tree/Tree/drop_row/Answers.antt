use Rattle.std.proofs.Common.{◌≡◌, ℕ, ◌<◌, ◌≤◌, List, length, get_or, Option, Some, None, refl, sym, ap, ◌∙◌, subst, cond, arith, rules, Less, Equal, Greater}
use Rattle.std.specs.Prelude.{IsSome, nat_eq}
use Rattle.std.specs.List.{find}
use Rattle.std.specs.Cmp.Lexicographic.{pointwise}
use Rattle.std.proofs.lemmas.List.{length-map}
use Rattle.arti_rows.specs.Key.{Key, key_cmp}
use Rattle.arti_tree.specs.declared.slot.Slot.{Slot}
use Rattle.arti_tree.specs.Ids.{without_id}
use Rattle.arti_tree.specs.Rows.{Row, row_of, row_at, lies_in, without_row, folder_id}
use Rattle.arti_tree.specs.Slots.{at, live, key_at, row_with, is_it}
use Rattle.arti_tree.specs.Kept.{Ordered}
use Rattle.arti_tree.specs.Repos.{list_of}
use Rattle.arti_tree.specs.Children.{list_at}
use Rattle.arti_tree.specs.Searched.{key, AllLive, RisingAt}
use Rattle.arti_tree.proofs.Along.{to_both, from_both}
use Rattle.arti_tree.proofs.Looks.{all_live, rising_there, found_there, missing, row_there, live_in}
use Rattle.arti_tree.proofs.Adding.{all_ascend, children_ascend, repo_ascends}
use Rattle.arti_tree.proofs.Shrinking.{kept_less, order_less}
use Rattle.arti_tree.proofs.Dropping.{no_slot, if_some_at, some_rows}
use Rattle.arti_tree.proofs.tree.Tree.drop_row.Goals as goal

pub unreachable-requires : goal.unreachable-requires
unreachable-requires c =
    let t = c.self.inside in
    no_slot t.slots.items c.args.id (ap (λ (l : List (Option Slot)). at l c.args.id) (sym c.deref.ensures.value) ∙ sym c.in_default.ensures) (subst (λ (l : List Row). IsSome (row_of l c.args.id)) (sym c.self.view_is) c.requires.live)

pub place_of-requires-clause-live : goal.place_of-requires-clause-live
place_of-requires-clause-live c =
    let t = c.self.inside in
    to_both AllLive c.deref-2.result.now t.slots.items t.order.items t.order.items c.deref-2.ensures.value refl (all_live t.slots.items t.order.items c.self.invariant.tree c.self.invariant.order_is)

pub place_of-requires-clause-rising : goal.place_of-requires-clause-rising
place_of-requires-clause-rising c =
    let t = c.self.inside in
    to_both RisingAt c.deref-2.result.now t.slots.items t.order.items t.order.items c.deref-2.ensures.value refl (rising_there t.slots.items t.order.items c.self.invariant.tree c.self.invariant.order_is)

none_some : {o : Option Row} {x : Row} → o ≡ None → o ≡ Some x → ⊥
none_some {o} {x} n s = let e : None ≡ Some x = sym n ∙ s in cc

pub unreachable-requires-in_default-place_of : goal.unreachable-requires-in_default-place_of
unreachable-requires-in_default-place_of c =
    let t = c.self.inside in
    let inv = c.self.invariant in
    let s : Slot = c.in-Some.slot.now in
    let k : Key = key c.as_str.result.now c.as_str-2.result.now c.as_str-3.result.now in
    let parts : k ≡ s.key = search rules in
    let there : at t.slots.items c.args.id ≡ Some s = ap (λ (l : List (Option Slot)). at l c.args.id) (sym c.deref.ensures.value) ∙ sym c.in-Some.ensures in
    let i : ℕ = c.in_default-place_of.field-0 in
    let gap = from_both (λ (l : List (Option Slot)) (o : List ℕ). (i ≤ length o) × ((j : ℕ) → j < i → key_cmp (key_at l (get_or o j 0)) k ≡ Less) × ((j : ℕ) → i ≤ j → j < length o → key_cmp (key_at l (get_or o j 0)) k ≡ Greater))
    c.deref-2.result.now t.slots.items t.order.items t.order.items c.deref-2.ensures.value refl (c.in_default-place_of.ensures.within, c.in_default-place_of.ensures.before, c.in_default-place_of.ensures.behind) in
    none_some (missing t.slots.items t.order.items inv.tree inv.order_is k i gap.0 gap.1 gap.2) (ap (row_at (live 0 t.slots.items)) parts ∙ inv.tree.differ (row_with c.args.id s) (live_in t.slots.items c.args.id s there))

pub leave-requires : goal.leave-requires
leave-requires c =
    let t = c.self.inside in
    repo_ascends t.slots.items t.all.items t.order.items (list_at t.children) (list_of t.repos) c.self.invariant c.as_str-4.result.now

pub leave_folder-requires : goal.leave_folder-requires
leave_folder-requires c =
    let t = c.self.inside in
    children_ascend t.slots.items t.all.items t.order.items (list_at t.children) (list_of t.repos) c.self.invariant

pub drop_id-requires : goal.drop_id-requires
drop_id-requires c =
    let t = c.self.inside in
    all_ascend t.slots.items t.all.items t.order.items (list_at t.children) (list_of t.repos) c.self.invariant

pub invariant_of-self : goal.invariant_of-self
invariant_of-self c =
    let t = c.self.inside in
    let inv = c.self.invariant in
    let rows = live 0 t.slots.items in
    let id : ℕ = c.args.id in
    let s : Slot = c.in-Some.slot.now in
    let k : Key = key c.as_str.result.now c.as_str-2.result.now c.as_str-3.result.now in
    let parts : k ≡ s.key = search rules in
    let repo : c.as_str-4.result.now ≡ s.key.repo = search rules in
    let there : at t.slots.items id ≡ Some s = ap (λ (l : List (Option Slot)). at l id) (sym c.deref.ensures.value) ∙ sym c.in-Some.ensures in
    let is_live = live_in t.slots.items id s there in
    let row : row_of c.args.self.now id ≡ Some (row_with id s) = ap (λ (l : List Row). row_of l id) (sym c.self.view_is) ∙ is_live in
    let folder : c.folder_under-folder.result ≡ folder_id rows s.key = if_some_at (row_of c.args.self.now id) (row_with id s) (λ r. c.folder_under-folder.result ≡ folder_id c.args.self.now r.key) row c.folder_under-folder.ensures ∙ ap (λ (l : List Row). folder_id l s.key) (sym c.self.view_is) in
    let empty : find (lies_in s.key) rows ≡ None = ap (λ (l : List Row). find (lies_in s.key) l) c.self.view_is ∙ if_some_at (row_of c.args.self.now id) (row_with id s) (λ r. find (lies_in r.key) c.args.self.now ≡ None) row c.requires.empty in
    let i : ℕ = c.in-Ok.place in
    let found = from_both (λ (l : List (Option Slot)) (o : List ℕ). (i < length o) × (key_cmp (key_at l (get_or o i 0)) k ≡ Equal)) c.deref-2.result.now t.slots.items t.order.items t.order.items c.deref-2.ensures.value refl c.in-Ok.ensures.found in
    let at_place : row_there t.slots.items t.order.items inv.tree inv.order_is i ≡ row_with id s =
    some_rows (row_there t.slots.items t.order.items inv.tree inv.order_is i) (row_with id s) (sym (found_there t.slots.items t.order.items inv.tree inv.order_is k i found.0 found.1) ∙ ap (row_at rows) parts ∙ inv.tree.differ (row_with id s) is_live) in
    let o = inv.order_is in
    let below : i < length o.sorted = omega (arith, found.0, ap (λ (l : List ℕ). length l) o.is, length-map o.sorted (λ (r : Row). r.id)) in
    let ordered = order_less rows (row_with id s) inv.tree is_live empty t.order.items o i below at_place in
    kept_less t.slots.items c.empty.new.slots.items s id t.all.items t.order.items (list_at t.children) (list_at c.leave_folder.new.children) (list_of t.repos) (list_of c.leave.new.repos) inv there empty
    c.empty.ensures.less c.empty.ensures.each
    (λ j. c.leave_folder.ensures.less j ∙ ap (λ (f : Option ℕ). cond (is_it f j) (without_id id (list_at t.children j)) (list_at t.children j)) folder)
    c.drop_id.new.ids.items c.remove.new.self.items c.drop_id.ensures (subst (λ (l : List ℕ). Ordered (without_row id rows) l) (sym c.remove.ensures.items) ordered)
    (λ q. c.leave.ensures q ∙ ap (λ (r : List ℕ). cond (pointwise nat_eq q r) (without_id id (list_of t.repos q)) (list_of t.repos q)) repo)
