use Rattle.std.proofs.Common.{◌≡◌, ℕ, ◌<◌, ◌≤◌, List, length, get_or, Option, Some, option_map, refl, sym, ap, ◌∙◌, subst, arith, Less, Equal, Greater}
use Rattle.arti_rows.specs.Key.{Key, key_cmp}
use Rattle.arti_tree.specs.declared.slot.Slot.{Slot}
use Rattle.arti_tree.specs.Rows.{Row, row_at, rank_of}
use Rattle.arti_tree.specs.Slots.{key_at, live}
use Rattle.arti_tree.specs.Searched.{key, AllLive, RisingAt}
use Rattle.arti_tree.proofs.Along.{to_both, from_both}
use Rattle.arti_tree.proofs.Looks.{all_live, rising_there, found_there, id_there, rank_there, row_there, missing, order_long}
use Rattle.arti_tree.proofs.tree.Tree.find.Goals as goal

pub place_of-requires-clause-live : goal.place_of-requires-clause-live
place_of-requires-clause-live c =
    let t = c.self.inside in
    to_both AllLive c.deref.result.now t.slots.items t.order.items t.order.items c.deref.ensures.value refl (all_live t.slots.items t.order.items c.self.invariant.tree c.self.invariant.order_is)

pub place_of-requires-clause-rising : goal.place_of-requires-clause-rising
place_of-requires-clause-rising c =
    let t = c.self.inside in
    to_both RisingAt c.deref.result.now t.slots.items t.order.items t.order.items c.deref.ensures.value refl (rising_there t.slots.items t.order.items c.self.invariant.tree c.self.invariant.order_is)

pub returns-in-Ok : goal.returns-in-Ok
returns-in-Ok c =
    let t = c.self.inside in
    let inv = c.self.invariant in
    let k : Key = key c.args.repo.now c.args.path.now c.args.name.now in
    let i : ℕ = c.in-Ok.place in
    let found = from_both (λ (s : List (Option Slot)) (o : List ℕ). (i < length o) × (key_cmp (key_at s (get_or o i 0)) k ≡ Equal)) c.deref.result.now t.slots.items t.order.items t.order.items c.deref.ensures.value refl c.in-Ok.ensures.found in
    let id : c.get.result ≡ (row_there t.slots.items t.order.items inv.tree inv.order_is i).id = c.get.ensures ∙ id_there t.slots.items t.order.items inv.tree inv.order_is i found.0 in
    let rank : i ≡ rank_of c.args.self.now (row_there t.slots.items t.order.items inv.tree inv.order_is i).key =
    sym (ap (λ (l : List Row). rank_of l (row_there t.slots.items t.order.items inv.tree inv.order_is i).key) (sym c.self.view_is) ∙ rank_there t.slots.items t.order.items inv.tree inv.order_is i found.0) in
    let both : (c.get.result, i) ≡ ((row_there t.slots.items t.order.items inv.tree inv.order_is i).id, rank_of c.args.self.now (row_there t.slots.items t.order.items inv.tree inv.order_is i).key) = cc in
    ap Some both
    ∙ sym (ap (option_map (λ (r : Row). (r.id, rank_of c.args.self.now r.key))) (ap (λ (l : List Row). row_at l k) (sym c.self.view_is) ∙ found_there t.slots.items t.order.items inv.tree inv.order_is k i found.0 found.1))

pub returns-in-Err : goal.returns-in-Err
returns-in-Err c =
    let t = c.self.inside in
    let inv = c.self.invariant in
    let k : Key = key c.args.repo.now c.args.path.now c.args.name.now in
    let i : ℕ = c.in-Err.field-0 in
    let gap = from_both (λ (s : List (Option Slot)) (o : List ℕ). (i ≤ length o) × ((j : ℕ) → j < i → key_cmp (key_at s (get_or o j 0)) k ≡ Less) × ((j : ℕ) → i ≤ j → j < length o → key_cmp (key_at s (get_or o j 0)) k ≡ Greater))
    c.deref.result.now t.slots.items t.order.items t.order.items c.deref.ensures.value refl (c.in-Err.ensures.within, c.in-Err.ensures.before, c.in-Err.ensures.behind) in
    sym (ap (option_map (λ (r : Row). (r.id, rank_of c.args.self.now r.key))) (ap (λ (l : List Row). row_at l k) (sym c.self.view_is) ∙ missing t.slots.items t.order.items inv.tree inv.order_is k i gap.0 gap.1 gap.2))

pub overflow_cast-result : goal.overflow_cast-result
overflow_cast-result c =
    let t = c.self.inside in
    let inv = c.self.invariant in
    let below : c.in-Ok.place < length t.order.items = subst (λ (o : List ℕ). c.in-Ok.place < length o) refl c.in-Ok.ensures.found.0 in
    omega (arith, below, order_long (live 0 t.slots.items) t.order.items inv.order_is, inv.tree.few)
