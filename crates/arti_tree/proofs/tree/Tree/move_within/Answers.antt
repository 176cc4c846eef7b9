use Rattle.std.proofs.Common.{◌≡◌, ℕ, List, refl, sym, ap, ◌∙◌, subst, rules}
use Rattle.std.specs.Prelude.{map, nat_eq}
use Rattle.std.specs.Cmp.Lexicographic.{pointwise}
use Rattle.arti_tree.specs.Ids.{AscendFrom}
use Rattle.arti_tree.specs.Slots.{live}
use Rattle.arti_tree.specs.Renames.{moved_row, key_for, rekeyed_all, AreWithin, CanRekey}
use Rattle.arti_tree.specs.Repos.{list_of}
use Rattle.arti_tree.specs.Shifts.{AreNew, shifted}
use Rattle.arti_tree.proofs.Along.{to_both}
use Rattle.arti_tree.proofs.Adding.{children_ascend, repo_ascends, kept_same}
use Rattle.arti_tree.proofs.Renaming.{absent_list, absent_repo, can_all, rows_moved, kept_after}
use Rattle.arti_tree.specs.Children.{list_at}
use Rattle.arti_tree.specs.Kept.{Ordered}
use Rattle.arti_tree.proofs.tree.Tree.move_within.Goals as goal

pub new_keys-requires-clause-within : goal.new_keys-requires-clause-within
new_keys-requires-clause-within c = subst (λ (l : List ℕ). AreWithin c.args.self.now c.args.from.now l) (sym c.deref.ensures.value) c.in_ok-ids.ensures.within

pub shift_both-requires-clause-ids_ascend : goal.shift_both-requires-clause-ids_ascend
shift_both-requires-clause-ids_ascend c = subst (λ (l : List ℕ). AscendFrom 0 l) (sym c.deref-2.ensures.value) c.in_ok-ids.ensures.ascend

pub shift_both-requires-clause-ascend : goal.shift_both-requires-clause-ascend
shift_both-requires-clause-ascend c =
    let t = c.self.inside in
    children_ascend t.slots.items t.all.items t.order.items (list_at t.children) (list_of t.repos) c.self.invariant

pub shift_both-requires-clause-absent : goal.shift_both-requires-clause-absent
shift_both-requires-clause-absent c =
    let t = c.self.inside in
    absent_list t.slots.items t.all.items t.order.items (list_at t.children) (list_of t.repos) c.self.invariant c.args.self.now c.self.view_is c.args.id c.args.from.now c.args.to.now c.rules.ensures c.rules-2.ensures c.requires.live c.requires.absent c.requires.folder c.requires.apart c.requires.keys c.in_ok-ids.ids.items c.in_ok-ids.ensures.within c.folder.result c.folder.ensures

pub shift_both-requires-clause-repos_ascend : goal.shift_both-requires-clause-repos_ascend
shift_both-requires-clause-repos_ascend c =
    let t = c.self.inside in
    repo_ascends t.slots.items t.all.items t.order.items (list_at t.children) (list_of t.repos) c.self.invariant

pub shift_both-requires-clause-repos_lack : goal.shift_both-requires-clause-repos_lack
shift_both-requires-clause-repos_lack c =
    let t = c.self.inside in
    let from_repo : c.as_str.result.now ≡ c.args.from.now.repo = search rules in
    let to_repo : c.as_str-2.result.now ≡ c.args.to.now.repo = search rules in
    λ e. to_both AreNew (list_of t.repos c.as_str-2.result.now) (list_of t.repos c.args.to.now.repo) c.deref-2.result.now c.in_ok-ids.ids.items (ap (list_of t.repos) to_repo) c.deref-2.ensures.value
    (absent_repo t.slots.items t.all.items t.order.items (list_at t.children) (list_of t.repos) c.self.invariant c.args.self.now c.self.view_is c.args.id c.args.from.now c.args.to.now c.rules.ensures c.rules-2.ensures c.requires.live c.requires.absent c.requires.folder c.requires.apart c.requires.keys c.in_ok-ids.ids.items c.in_ok-ids.ensures.within (ap (λ (q : List ℕ). pointwise nat_eq q c.args.to.now.repo) (sym from_repo) ∙ ap (λ (q : List ℕ). pointwise nat_eq c.as_str.result.now q) (sym to_repo) ∙ e))

pub invariant_of-self : goal.invariant_of-self
invariant_of-self c =
    let t = c.self.inside in
    kept_same t.slots.items t.all.items t.order.items (list_at t.children) (list_of t.repos) c.self.invariant t.slots.items t.all.items c.make_room.new.self.items (list_at t.children) (list_of t.repos) refl refl c.make_room.ensures.items (λ i. refl) (λ q. refl)

pub rekey_all-requires-clause-order : goal.rekey_all-requires-clause-order
rekey_all-requires-clause-order c =
    let t = c.self.inside in
    subst (λ (o : List ℕ). Ordered (live 0 t.slots.items) o) (sym c.make_room.ensures.items) c.self.invariant.order_is

pub invariant_of-self-in_err-shift_both : goal.invariant_of-self-in_err-shift_both
invariant_of-self-in_err-shift_both c =
    let t = c.self.inside in
    kept_same t.slots.items t.all.items t.order.items (list_at t.children) (list_of t.repos) c.self.invariant t.slots.items t.all.items c.make_room.new.self.items (list_at c.shift_both.new.children) (list_of c.shift_both.new.repos) refl refl c.make_room.ensures.items
    (λ i. c.in_err-shift_both.ensures.folders_stay i) c.in_err-shift_both.ensures.repos_stay

pub rekey_all-requires-clause-can : goal.rekey_all-requires-clause-can
rekey_all-requires-clause-can c =
    let t = c.self.inside in
    subst (λ (l : List ℕ). CanRekey (live 0 t.slots.items) l c.in_ok-keys.keys.items) (sym c.deref-3.ensures.value) (can_all t.slots.items t.all.items t.order.items (list_at t.children) (list_of t.repos) c.self.invariant c.args.self.now c.self.view_is c.args.id c.args.from.now c.args.to.now c.rules.ensures c.rules-2.ensures c.requires.live c.requires.absent c.requires.folder c.requires.apart c.requires.keys c.in_ok-ids.ids.items c.in_ok-ids.ensures.within c.in_ok-keys.keys.items (c.in_ok-keys.ensures ∙ ap (map (key_for c.args.self.now c.args.from.now c.args.to.now)) c.deref.ensures.value))

pub invariant_of-self-2 : goal.invariant_of-self-2
invariant_of-self-2 c =
    let t = c.self.inside in
    let from_repo : c.as_str.result.now ≡ c.args.from.now.repo = search rules in
    let to_repo : c.as_str-2.result.now ≡ c.args.to.now.repo = search rules in
    let rows_are : live 0 c.rekey_all.new.slots.items ≡ rekeyed_all c.in_ok-ids.ids.items c.in_ok-keys.keys.items (live 0 t.slots.items) =
    c.rekey_all.ensures.rows ∙ ap (λ (l : List ℕ). rekeyed_all l c.in_ok-keys.keys.items (live 0 t.slots.items)) c.deref-3.ensures.value in
    kept_after t.slots.items t.all.items t.order.items (list_at t.children) (list_of t.repos) c.self.invariant c.args.self.now c.self.view_is c.args.id c.args.from.now c.args.to.now c.rules.ensures c.rules-2.ensures c.requires.live c.requires.absent c.requires.folder c.requires.apart c.requires.keys c.in_ok-ids.ids.items c.in_ok-ids.ensures.within c.in_ok-keys.keys.items (c.in_ok-keys.ensures ∙ ap (map (key_for c.args.self.now c.args.from.now c.args.to.now)) c.deref.ensures.value) c.rekey_all.new.slots.items c.rekey_all.new.order.items (list_at c.shift_both.new.children) (list_of c.shift_both.new.repos)
    c.folder.result c.folder-2.result c.folder.ensures c.folder-2.ensures rows_are c.rekey_all.ensures.order
    (λ i. c.in_ok-shift_both.ensures.folders i)
    (λ q. c.in_ok-shift_both.ensures.repos q ∙ ap (λ (r : List ℕ). shifted (pointwise nat_eq q r) (pointwise nat_eq q c.as_str-2.result.now) c.deref-2.result.now (list_of t.repos q)) from_repo
    ∙ ap (λ (r : List ℕ). shifted (pointwise nat_eq q c.args.from.now.repo) (pointwise nat_eq q r) c.deref-2.result.now (list_of t.repos q)) to_repo
    ∙ ap (λ (l : List ℕ). shifted (pointwise nat_eq q c.args.from.now.repo) (pointwise nat_eq q c.args.to.now.repo) l (list_of t.repos q)) c.deref-2.ensures.value)

pub returns-clause-moved : goal.returns-clause-moved
returns-clause-moved c =
    let t = c.self.inside in
    let rows_are : live 0 c.rekey_all.new.slots.items ≡ rekeyed_all c.in_ok-ids.ids.items c.in_ok-keys.keys.items (live 0 t.slots.items) =
    c.rekey_all.ensures.rows ∙ ap (λ (l : List ℕ). rekeyed_all l c.in_ok-keys.keys.items (live 0 t.slots.items)) c.deref-3.ensures.value in
    rows_moved t.slots.items t.all.items t.order.items (list_at t.children) (list_of t.repos) c.self.invariant c.args.self.now c.self.view_is c.args.id c.args.from.now c.args.to.now c.rules.ensures c.rules-2.ensures c.requires.live c.requires.absent c.requires.folder c.requires.apart c.requires.keys c.in_ok-ids.ids.items c.in_ok-ids.ensures.within c.in_ok-keys.keys.items (live 0 c.rekey_all.new.slots.items) (c.in_ok-keys.ensures ∙ ap (map (key_for c.args.self.now c.args.from.now c.args.to.now)) c.deref.ensures.value) rows_are ∙ ap (map (moved_row c.args.from.now c.args.to.now)) c.self.view_is
