use Rattle.std.proofs.Common.{◌≡◌, ℕ, ◌+◌, ◌-◌, ◌<◌, ◌≤◌, ◌^◌, ◌⊎◌, List, length, get_or, Option, Some, None, refl, sym, ap, ◌∙◌, subst, cond, eqb, arith, rules, Less, Equal, Greater}
use Rattle.std.specs.Prelude.{nat_eq}
use Rattle.std.specs.List.{insert}
use Rattle.std.specs.Cmp.Lexicographic.{pointwise}
use Rattle.arti_rows.specs.Key.{Key, key_cmp}
use Rattle.arti_tree.specs.declared.slot.Slot.{Slot}
use Rattle.arti_tree.specs.Ids.{AscendFrom, IsNext, Lacks, with_id}
use Rattle.arti_tree.specs.Rows.{Row, ids, row_of, row_at, with_row, HasFolder, folder_id}
use Rattle.arti_tree.specs.Slots.{at, live, key_at, row_with, is_it}
use Rattle.arti_tree.specs.Kept.{Ordered}
use Rattle.arti_tree.specs.Repos.{list_of}
use Rattle.arti_tree.specs.Children.{list_at}
use Rattle.arti_tree.specs.Searched.{key, AllLive, RisingAt}
use Rattle.arti_tree.proofs.Along.{to_both, from_both}
use Rattle.arti_tree.proofs.Looks.{all_live, rising_there, found_there, order_long}
use Rattle.arti_tree.proofs.Growing.{Fresh, kept_more}
use Rattle.arti_tree.proofs.Adding.{all_ascend, children_ascend, repo_ascends, free_row, free_slot, children_lack, repo_lacks, id_within, next_row, kept_same, order_with}
use Rattle.arti_tree.proofs.tree.Tree.add.Goals as goal

pub place_of-requires-clause-live : goal.place_of-requires-clause-live
place_of-requires-clause-live c =
    let t = c.self.inside in
    to_both AllLive c.deref.result.now t.slots.items t.order.items t.order.items c.deref.ensures.value refl (all_live t.slots.items t.order.items c.self.invariant.tree c.self.invariant.order_is)

pub place_of-requires-clause-rising : goal.place_of-requires-clause-rising
place_of-requires-clause-rising c =
    let t = c.self.inside in
    to_both RisingAt c.deref.result.now t.slots.items t.order.items t.order.items c.deref.ensures.value refl (rising_there t.slots.items t.order.items c.self.invariant.tree c.self.invariant.order_is)

none_some : {o : Option Row} {x : Row} → o ≡ None → o ≡ Some x → ⊥
none_some {o} {x} n s = let e : None ≡ Some x = sym n ∙ s in cc

pub unreachable-requires : goal.unreachable-requires
unreachable-requires c =
    let t = c.self.inside in
    let inv = c.self.invariant in
    let k : Key = key c.as_str.result.now c.as_str-2.result.now c.as_str-3.result.now in
    let parts : k ≡ c.args.key = search rules in
    let i : ℕ = c.in_default.field-0 in
    let found = from_both (λ (s : List (Option Slot)) (o : List ℕ). (i < length o) × (key_cmp (key_at s (get_or o i 0)) k ≡ Equal)) c.deref.result.now t.slots.items t.order.items t.order.items c.deref.ensures.value refl c.in_default.ensures.found in
    none_some (subst (λ (l : List Row). row_at l k ≡ None) (sym c.self.view_is) (subst (λ (x : Key). row_at c.args.self.now x ≡ None) (sym parts) c.requires.absent))
    (found_there t.slots.items t.order.items inv.tree inv.order_is k i found.0 found.1)

pub free_id-id-requires-clause-ascend : goal.free_id-id-requires-clause-ascend
free_id-id-requires-clause-ascend c =
    let t = c.self.inside in
    subst (λ (l : List ℕ). AscendFrom 0 l) (sym c.deref-2.ensures.value) (all_ascend t.slots.items t.all.items t.order.items (list_at t.children) (list_of t.repos) c.self.invariant)

pub enter_both-requires-clause-ascend : goal.enter_both-requires-clause-ascend
enter_both-requires-clause-ascend c =
    let t = c.self.inside in
    children_ascend t.slots.items t.all.items t.order.items (list_at t.children) (list_of t.repos) c.self.invariant

pub enter_both-requires-clause-absent : goal.enter_both-requires-clause-absent
enter_both-requires-clause-absent c =
    let t = c.self.inside in
    let lacks = subst (λ (l : List ℕ). Lacks l c.free_id-id.result) c.deref-2.ensures.value c.free_id-id.ensures.absent in
    λ i. (children_lack t.slots.items t.all.items t.order.items (list_at t.children) (list_of t.repos) c.self.invariant c.free_id-id.result i lacks)

pub enter_both-requires-clause-repo_ascends : goal.enter_both-requires-clause-repo_ascends
enter_both-requires-clause-repo_ascends c =
    let t = c.self.inside in
    repo_ascends t.slots.items t.all.items t.order.items (list_at t.children) (list_of t.repos) c.self.invariant c.as_str-4.result.now

pub enter_both-requires-clause-repo_lacks : goal.enter_both-requires-clause-repo_lacks
enter_both-requires-clause-repo_lacks c =
    let t = c.self.inside in
    let lacks = subst (λ (l : List ℕ). Lacks l c.free_id-id.result) c.deref-2.ensures.value c.free_id-id.ensures.absent in
    repo_lacks t.slots.items t.all.items t.order.items (list_at t.children) (list_of t.repos) c.self.invariant c.free_id-id.result c.as_str-4.result.now lacks

pub add_ready-requires-clause-ascend : goal.add_ready-requires-clause-ascend
add_ready-requires-clause-ascend c =
    let t = c.self.inside in
    subst (λ (l : List ℕ). AscendFrom 0 l) (sym c.make_room.ensures.all) (all_ascend t.slots.items t.all.items t.order.items (list_at t.children) (list_of t.repos) c.self.invariant)

pub fill-requires-clause-within : goal.fill-requires-clause-within
fill-requires-clause-within c =
    let t = c.self.inside in
    let id : ℕ = c.free_id-id.result in
    let free = subst (λ (l : List ℕ). (id ≡ 0) ⊎ ((0 < length l) × (id ≤ get_or l (length l - 1) 0 + 1))) c.deref-2.ensures.value c.free_id-id.ensures.within in
    let within = id_within t.slots.items t.all.items t.order.items (list_at t.children) (list_of t.repos) c.self.invariant id free in
    subst (λ (l : List (Option Slot)). id ≤ length l) (sym c.make_room.ensures.slots) within

pub fill-requires-clause-empty : goal.fill-requires-clause-empty
fill-requires-clause-empty c =
    let t = c.self.inside in
    let lacks = subst (λ (l : List ℕ). Lacks l c.free_id-id.result) c.deref-2.ensures.value c.free_id-id.ensures.absent in
    ap (λ (l : List (Option Slot)). at l c.free_id-id.result) c.make_room.ensures.slots ∙ free_slot t.slots.items t.all.items t.order.items (list_at t.children) (list_of t.repos) c.self.invariant c.free_id-id.result lacks

pub invariant_of-self-2 : goal.invariant_of-self-2
invariant_of-self-2 c =
    let t = c.self.inside in
    let inv = c.self.invariant in
    let rows = live 0 t.slots.items in
    let id : ℕ = c.free_id-id.result in
    let s : Slot = record { key = c.args.key; is_file = c.args.is_file } in
    let k : Key = key c.as_str.result.now c.as_str-2.result.now c.as_str-3.result.now in
    let parts : k ≡ c.args.key = search rules in
    let repo : c.as_str-4.result.now ≡ c.args.key.repo = search rules in
    let folder : c.folder-folder.result ≡ folder_id rows c.args.key = c.folder-folder.ensures ∙ ap (λ (l : List Row). folder_id l c.args.key) (sym c.self.view_is) in
    let lacks = subst (λ (l : List ℕ). Lacks l id) c.deref-2.ensures.value c.free_id-id.ensures.absent in
    let fresh : Fresh rows (row_with id s) = record {
      is_key = c.rules.ensures;
      no_id = free_row t.slots.items t.all.items t.order.items (list_at t.children) (list_of t.repos) inv id lacks;
      no_key = subst (λ (l : List Row). row_at l c.args.key ≡ None) (sym c.self.view_is) c.requires.absent;
      folder = subst (λ (l : List Row). HasFolder l c.args.key) (sym c.self.view_is) c.requires.folder;
      few = subst (λ (l : List Row). length l + 1 < 2 ^ 32) (sym c.self.view_is) c.requires.few;
    } in
    let gap = from_both (λ (l : List (Option Slot)) (o : List ℕ). (c.in-Err.place ≤ length o) × ((j : ℕ) → j < c.in-Err.place → key_cmp (key_at l (get_or o j 0)) k ≡ Less) × ((j : ℕ) → c.in-Err.place ≤ j → j < length o → key_cmp (key_at l (get_or o j 0)) k ≡ Greater))
    c.deref.result.now t.slots.items t.order.items t.order.items c.deref.ensures.value refl (c.in-Err.ensures.within, c.in-Err.ensures.before, c.in-Err.ensures.behind) in
    let gap_of = subst (λ (x : Key). ((j : ℕ) → j < c.in-Err.place → key_cmp (key_at t.slots.items (get_or t.order.items j 0)) x ≡ Less) × ((j : ℕ) → c.in-Err.place ≤ j → j < length t.order.items → key_cmp (key_at t.slots.items (get_or t.order.items j 0)) x ≡ Greater)) parts (gap.1, gap.2) in
    let ordered = order_with t.slots.items t.all.items t.order.items (list_at t.children) (list_of t.repos) inv c.args.key id c.args.is_file c.in-Err.place gap.0 gap_of.0 gap_of.1 fresh in
    let order_is : c.insert.new.self.items ≡ insert t.order.items c.in-Err.place id = c.insert.ensures.items ∙ ap (λ (l : List ℕ). insert l c.in-Err.place id) c.make_room.ensures.order in
    let room : c.make_room.new.slots.items ≡ t.slots.items = c.make_room.ensures.slots in
    let more : live 0 c.fill.new.slots.items ≡ with_row (row_with id s) rows = c.fill.ensures.more ∙ ap (λ (l : List (Option Slot)). with_row (row_with id s) (live 0 l)) room in
    kept_more t.slots.items c.fill.new.slots.items s id t.all.items t.order.items (list_at t.children) (list_at c.enter_both.new.children) (list_of t.repos) (list_of c.enter_both.new.repos) inv fresh more
    (λ i. c.fill.ensures.each i ∙ ap (λ (l : List (Option Slot)). cond (eqb i id) (Some s) (at l i)) room)
    (λ i. c.in_ok-enter_both.ensures.in_folder i ∙ ap (λ (o : Option ℕ). cond (is_it o i) (with_id id (list_at t.children i)) (list_at t.children i)) folder)
    c.add_ready.new.ids.items c.insert.new.self.items (c.add_ready.ensures.items ∙ ap (with_id id) c.make_room.ensures.all) (subst (λ (o : List ℕ). Ordered (with_row (row_with id s) rows) o) (sym order_is) ordered)
    (λ q. c.in_ok-enter_both.ensures.in_repo q ∙ ap (λ (r : List ℕ). cond (pointwise nat_eq q r) (with_id id (list_of t.repos q)) (list_of t.repos q)) repo)

pub returns-clause-fresh : goal.returns-clause-fresh
returns-clause-fresh c =
    let t = c.self.inside in
    let lacks = subst (λ (l : List ℕ). Lacks l c.free_id-id.result) c.deref-2.ensures.value c.free_id-id.ensures.absent in
    subst (λ (l : List Row). row_of l c.free_id-id.result ≡ None) c.self.view_is (free_row t.slots.items t.all.items t.order.items (list_at t.children) (list_of t.repos) c.self.invariant c.free_id-id.result lacks)

pub returns-clause-next : goal.returns-clause-next
returns-clause-next c =
    let t = c.self.inside in
    let id : ℕ = c.free_id-id.result in
    let next = subst (λ (l : List ℕ). IsNext l id) c.deref-2.ensures.value c.free_id-id.ensures.next in
    subst (λ (l : List Row). IsNext (ids l) id) c.self.view_is (next_row t.slots.items t.all.items t.order.items (list_at t.children) (list_of t.repos) c.self.invariant id next)

pub invariant_of-self-in_err-enter_both : goal.invariant_of-self-in_err-enter_both
invariant_of-self-in_err-enter_both c =
    let t = c.self.inside in
    kept_same t.slots.items t.all.items t.order.items (list_at t.children) (list_of t.repos) c.self.invariant c.make_room.new.slots.items c.make_room.new.all.items c.make_room.new.order.items (list_at c.enter_both.new.children) (list_of c.enter_both.new.repos)
    c.make_room.ensures.slots c.make_room.ensures.all c.make_room.ensures.order
    (λ i. c.in_err-enter_both.ensures.folders_stay i) c.in_err-enter_both.ensures.repos_stay

pub insert-requires-clause-few : goal.insert-requires-clause-few
insert-requires-clause-few c =
    let t = c.self.inside in
    omega (arith, c.requires.few, ap (λ (l : List ℕ). length l) c.make_room.ensures.order, order_long (live 0 t.slots.items) t.order.items c.self.invariant.order_is, ap (λ (l : List Row). length l) c.self.view_is)
