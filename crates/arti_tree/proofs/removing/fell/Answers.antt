use Rattle.std.proofs.Common.{◌≡◌, ℕ, ◌<◌, ◌≤◌, List, length, get_or, Option, Some, None, refl, sym, ap, ◌∙◌, subst, rules, Less, Equal, Greater}
use Rattle.std.specs.List.{remove}
use Rattle.arti_rows.specs.Key.{Key, key_cmp}
use Rattle.arti_tree.specs.declared.slot.Slot.{Slot}
use Rattle.arti_tree.specs.Rows.{Row, row_at, without_row, IsLive}
use Rattle.arti_tree.specs.Slots.{at, live, key_at, row_with}
use Rattle.arti_tree.specs.Kept.{Ordered}
use Rattle.arti_tree.specs.Renames.{Differ}
use Rattle.arti_tree.specs.Searched.{key, AllLive, RisingAt}
use Rattle.arti_tree.proofs.Along.{to_both, from_both}
use Rattle.arti_tree.proofs.Lives.{live_from}
use Rattle.arti_tree.proofs.Looks.{live_in, live_in_order, rising_in}
use Rattle.arti_tree.proofs.Rekeys.{missing_in, placed}
use Rattle.arti_tree.proofs.Leaving.{differ_less, order_left}
use Rattle.arti_tree.proofs.removing.fell.Goals as goal

pub place_of-requires-clause-live : goal.place_of-requires-clause-live
place_of-requires-clause-live c =
    let o = c.requires.order in
    to_both AllLive c.deref-2.result.now c.args.slots.now.items c.args.order.now.items c.args.order.now.items c.deref-2.ensures.value refl (live_in_order c.args.slots.now.items c.args.order.now.items o.sorted o.is o.live o.rising)

pub place_of-requires-clause-rising : goal.place_of-requires-clause-rising
place_of-requires-clause-rising c =
    let o = c.requires.order in
    to_both RisingAt c.deref-2.result.now c.args.slots.now.items c.args.order.now.items c.args.order.now.items c.deref-2.ensures.value refl (rising_in c.args.slots.now.items c.args.order.now.items o.sorted o.is o.live o.rising)

none_some : {o : Option Row} {x : Row} → o ≡ None → o ≡ Some x → ⊥
none_some {o} {x} n s = let e : None ≡ Some x = sym n ∙ s in cc

abbrev Gap : Key → ℕ → List (Option Slot) → List ℕ → Type 0
Gap k i l o = (i ≤ length o) × ((j : ℕ) → j < i → key_cmp (key_at l (get_or o j 0)) k ≡ Less) × ((j : ℕ) → i ≤ j → j < length o → key_cmp (key_at l (get_or o j 0)) k ≡ Greater)

abbrev Tie : Key → ℕ → List (Option Slot) → List ℕ → Type 0
Tie k i l o = (i < length o) × (key_cmp (key_at l (get_or o i 0)) k ≡ Equal)

pub unreachable-requires-in_default-place_of : goal.unreachable-requires-in_default-place_of
unreachable-requires-in_default-place_of c =
    let slots = c.args.slots.now.items in
    let s : Slot = c.in-Some.slot.now in
    let k : Key = key c.as_str.result.now c.as_str-2.result.now c.as_str-3.result.now in
    let parts : k ≡ s.key = search rules in
    let there : at slots c.args.id ≡ Some s = ap (λ (l : List (Option Slot)). at l c.args.id) (sym c.deref.ensures.value) ∙ sym c.in-Some.ensures in
    let i : ℕ = c.in_default-place_of.field-0 in
    let gap = from_both (Gap k i) c.deref-2.result.now slots c.args.order.now.items c.args.order.now.items c.deref-2.ensures.value refl (c.in_default-place_of.ensures.within, c.in_default-place_of.ensures.before, c.in_default-place_of.ensures.behind) in
    none_some (missing_in slots c.args.order.now.items c.requires.order k i gap.0 gap.1 gap.2) (ap (row_at (live 0 slots)) parts ∙ c.requires.differ (row_with c.args.id s) (live_in slots c.args.id s there))

pub returns-clause-differ : goal.returns-clause-differ
returns-clause-differ c =
    let slots = c.args.slots.now.items in
    subst (λ (l : List Row). Differ l) (sym c.empty.ensures.less) (differ_less (live 0 slots) c.args.id (live_from 0 slots) c.requires.differ)

pub returns-clause-order : goal.returns-clause-order
returns-clause-order c =
    let slots = c.args.slots.now.items in
    let order = c.args.order.now.items in
    let o = c.requires.order in
    let s : Slot = c.in-Some.slot.now in
    let k : Key = key c.as_str.result.now c.as_str-2.result.now c.as_str-3.result.now in
    let parts : k ≡ s.key = search rules in
    let there : at slots c.args.id ≡ Some s = ap (λ (l : List (Option Slot)). at l c.args.id) (sym c.deref.ensures.value) ∙ sym c.in-Some.ensures in
    let r : Row = row_with c.args.id s in
    let is_live : IsLive (live 0 slots) r = live_in slots c.args.id s there in
    let i : ℕ = c.in-Ok.place in
    let tie = from_both (Tie k i) c.deref-2.result.now slots order order c.deref-2.ensures.value refl c.in-Ok.ensures.found in
    let p = placed slots order o c.requires.differ r is_live k parts i tie.0 tie.1 in
    to_both Ordered (live 0 c.empty.new.slots.items) (without_row c.args.id (live 0 slots)) c.remove.new.self.items (remove order i) c.empty.ensures.less c.remove.ensures.items
    (order_left (live 0 slots) r (live_from 0 slots) is_live order o i p.0 p.1)
