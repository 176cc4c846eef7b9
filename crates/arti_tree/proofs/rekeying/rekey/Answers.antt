use Rattle.std.proofs.Common.{◌≡◌, ℕ, ◌<◌, ◌≤◌, List, length, get_or, Option, Some, None, refl, sym, ap, ◌∙◌, subst, rules, Less, Equal, Greater}
use Rattle.std.specs.List.{insert, remove}
use Rattle.arti_rows.specs.Key.{Key, key_cmp}
use Rattle.arti_tree.specs.declared.slot.Slot.{Slot}
use Rattle.arti_tree.specs.Rows.{Row, row_at, IsLive}
use Rattle.arti_tree.specs.Slots.{at, live, key_at, row_with}
use Rattle.arti_tree.specs.Kept.{Ordered}
use Rattle.arti_tree.specs.Renames.{Differ, rekeyed}
use Rattle.arti_tree.specs.Searched.{key, AllLive, RisingAt}
use Rattle.arti_tree.proofs.Along.{to_both, from_both}
use Rattle.arti_tree.proofs.Lives.{live_from}
use Rattle.arti_tree.proofs.Looks.{live_in, live_in_order, rising_in, before_in, behind_in}
use Rattle.arti_tree.proofs.Rekeys.{missing_in, placed, tied_there, differ_rekeyed, gap_within, left_is, left_live, left_rising, order_rekeyed}
use Rattle.arti_tree.proofs.rekeying.rekey.Goals as goal

pub place_of-requires-clause-live : goal.place_of-requires-clause-live
place_of-requires-clause-live c =
    let o = c.requires.order in
    to_both AllLive c.deref-2.result.now c.args.slots.now.items c.args.order.now.items c.args.order.now.items c.deref-2.ensures.value refl (live_in_order c.args.slots.now.items c.args.order.now.items o.sorted o.is o.live o.rising)

pub place_of-requires-clause-rising : goal.place_of-requires-clause-rising
place_of-requires-clause-rising c =
    let o = c.requires.order in
    to_both RisingAt c.deref-2.result.now c.args.slots.now.items c.args.order.now.items c.args.order.now.items c.deref-2.ensures.value refl (rising_in c.args.slots.now.items c.args.order.now.items o.sorted o.is o.live o.rising)

none_some : {o : Option Row} {x : Row} → o ≡ None → o ≡ Some x → ⊥
none_some {o} {x} n s = let e : None ≡ Some x = sym n ∙ s in cc

abbrev Gap : Key → ℕ → List (Option Slot) → List ℕ → Type 0
Gap k i l o = (i ≤ length o) × ((j : ℕ) → j < i → key_cmp (key_at l (get_or o j 0)) k ≡ Less) × ((j : ℕ) → i ≤ j → j < length o → key_cmp (key_at l (get_or o j 0)) k ≡ Greater)

abbrev Tie : Key → ℕ → List (Option Slot) → List ℕ → Type 0
Tie k i l o = (i < length o) × (key_cmp (key_at l (get_or o i 0)) k ≡ Equal)

pub unreachable-requires-in_default-place_of : goal.unreachable-requires-in_default-place_of
unreachable-requires-in_default-place_of c =
    let slots = c.args.slots.now.items in
    let s : Slot = c.in-Some.slot.now in
    let k : Key = key c.as_str.result.now c.as_str-2.result.now c.as_str-3.result.now in
    let parts : k ≡ s.key = search rules in
    let there : at slots c.args.id ≡ Some s = ap (λ (l : List (Option Slot)). at l c.args.id) (sym c.deref.ensures.value) ∙ sym c.in-Some.ensures in
    let i : ℕ = c.in_default-place_of.field-0 in
    let gap = from_both (Gap k i) c.deref-2.result.now slots c.args.order.now.items c.args.order.now.items c.deref-2.ensures.value refl (c.in_default-place_of.ensures.within, c.in_default-place_of.ensures.before, c.in_default-place_of.ensures.behind) in
    none_some (missing_in slots c.args.order.now.items c.requires.order k i gap.0 gap.1 gap.2) (ap (row_at (live 0 slots)) parts ∙ c.requires.differ (row_with c.args.id s) (live_in slots c.args.id s there))

pub place_of-requires-2-clause-live : goal.place_of-requires-2-clause-live
place_of-requires-2-clause-live c =
    let slots = c.args.slots.now.items in
    let order = c.args.order.now.items in
    let o = c.requires.order in
    let s : Slot = c.in-Some.slot.now in
    let k : Key = key c.as_str.result.now c.as_str-2.result.now c.as_str-3.result.now in
    let parts : k ≡ s.key = search rules in
    let there : at slots c.args.id ≡ Some s = ap (λ (l : List (Option Slot)). at l c.args.id) (sym c.deref.ensures.value) ∙ sym c.in-Some.ensures in
    let r : Row = row_with c.args.id s in
    let is_live : IsLive (live 0 slots) r = live_in slots c.args.id s there in
    let i : ℕ = c.in-Ok.old in
    let tie = from_both (Tie k i) c.deref-2.result.now slots c.args.order.now.items order c.deref-2.ensures.value refl c.in-Ok.ensures.found in
    let p = placed slots order o c.requires.differ r is_live k parts i tie.0 tie.1 in
    let up = live_from 0 slots in
    let e : c.remove.new.self.items ≡ remove order i = c.remove.ensures.items in
    to_both AllLive c.deref-3.result.now slots c.remove.new.self.items (remove order i) c.deref-3.ensures.value e
    (live_in_order slots (remove order i) (remove o.sorted i) (left_is (live 0 slots) r c.args.key up is_live order o i p.0 p.1) (left_live (live 0 slots) r c.args.key up is_live order o i p.0 p.1) (left_rising (live 0 slots) r c.args.key up is_live order o i p.0 p.1))

pub place_of-requires-2-clause-rising : goal.place_of-requires-2-clause-rising
place_of-requires-2-clause-rising c =
    let slots = c.args.slots.now.items in
    let order = c.args.order.now.items in
    let o = c.requires.order in
    let s : Slot = c.in-Some.slot.now in
    let k : Key = key c.as_str.result.now c.as_str-2.result.now c.as_str-3.result.now in
    let parts : k ≡ s.key = search rules in
    let there : at slots c.args.id ≡ Some s = ap (λ (l : List (Option Slot)). at l c.args.id) (sym c.deref.ensures.value) ∙ sym c.in-Some.ensures in
    let r : Row = row_with c.args.id s in
    let is_live : IsLive (live 0 slots) r = live_in slots c.args.id s there in
    let i : ℕ = c.in-Ok.old in
    let tie = from_both (Tie k i) c.deref-2.result.now slots c.args.order.now.items order c.deref-2.ensures.value refl c.in-Ok.ensures.found in
    let p = placed slots order o c.requires.differ r is_live k parts i tie.0 tie.1 in
    let up = live_from 0 slots in
    let e : c.remove.new.self.items ≡ remove order i = c.remove.ensures.items in
    to_both RisingAt c.deref-3.result.now slots c.remove.new.self.items (remove order i) c.deref-3.ensures.value e
    (rising_in slots (remove order i) (remove o.sorted i) (left_is (live 0 slots) r c.args.key up is_live order o i p.0 p.1) (left_live (live 0 slots) r c.args.key up is_live order o i p.0 p.1) (left_rising (live 0 slots) r c.args.key up is_live order o i p.0 p.1))

pub unreachable-requires-in_default-place_of-2 : goal.unreachable-requires-in_default-place_of-2
unreachable-requires-in_default-place_of-2 c =
    let slots = c.args.slots.now.items in
    let order = c.args.order.now.items in
    let o = c.requires.order in
    let s : Slot = c.in-Some.slot.now in
    let k : Key = key c.as_str.result.now c.as_str-2.result.now c.as_str-3.result.now in
    let parts : k ≡ s.key = search rules in
    let there : at slots c.args.id ≡ Some s = ap (λ (l : List (Option Slot)). at l c.args.id) (sym c.deref.ensures.value) ∙ sym c.in-Some.ensures in
    let r : Row = row_with c.args.id s in
    let is_live : IsLive (live 0 slots) r = live_in slots c.args.id s there in
    let i : ℕ = c.in-Ok.old in
    let tie = from_both (Tie k i) c.deref-2.result.now slots c.args.order.now.items order c.deref-2.ensures.value refl c.in-Ok.ensures.found in
    let p = placed slots order o c.requires.differ r is_live k parts i tie.0 tie.1 in
    let up = live_from 0 slots in
    let e : c.remove.new.self.items ≡ remove order i = c.remove.ensures.items in
    let n : Key = key c.as_str-4.result.now c.as_str-5.result.now c.as_str-6.result.now in
    let new_parts : n ≡ c.args.key = search rules in
    let j : ℕ = c.in_default-place_of-2.field-0 in
    let new_tie = from_both (Tie n j) c.deref-3.result.now slots c.remove.new.self.items (remove order i) c.deref-3.ensures.value e c.in_default-place_of-2.ensures.found in
    tied_there slots (remove order i) (remove o.sorted i) (left_is (live 0 slots) r c.args.key up is_live order o i p.0 p.1) (left_live (live 0 slots) r c.args.key up is_live order o i p.0 p.1) (left_rising (live 0 slots) r c.args.key up is_live order o i p.0 p.1)
    c.requires.differ n j new_tie.0 new_tie.1 (ap (row_at (live 0 slots)) new_parts ∙ c.requires.absent)

pub returns-clause-differ : goal.returns-clause-differ
returns-clause-differ c =
    let slots = c.args.slots.now.items in
    subst (λ (l : List Row). Differ l) (sym c.set_key.ensures.rows) (differ_rekeyed (live 0 slots) c.args.id c.args.key (live_from 0 slots) c.requires.differ c.requires.absent)

pub returns-clause-order : goal.returns-clause-order
returns-clause-order c =
    let slots = c.args.slots.now.items in
    let order = c.args.order.now.items in
    let o = c.requires.order in
    let s : Slot = c.in-Some.slot.now in
    let k : Key = key c.as_str.result.now c.as_str-2.result.now c.as_str-3.result.now in
    let parts : k ≡ s.key = search rules in
    let there : at slots c.args.id ≡ Some s = ap (λ (l : List (Option Slot)). at l c.args.id) (sym c.deref.ensures.value) ∙ sym c.in-Some.ensures in
    let r : Row = row_with c.args.id s in
    let is_live : IsLive (live 0 slots) r = live_in slots c.args.id s there in
    let i : ℕ = c.in-Ok.old in
    let tie = from_both (Tie k i) c.deref-2.result.now slots c.args.order.now.items order c.deref-2.ensures.value refl c.in-Ok.ensures.found in
    let p = placed slots order o c.requires.differ r is_live k parts i tie.0 tie.1 in
    let up = live_from 0 slots in
    let e : c.remove.new.self.items ≡ remove order i = c.remove.ensures.items in
    let n : Key = key c.as_str-4.result.now c.as_str-5.result.now c.as_str-6.result.now in
    let new_parts : n ≡ c.args.key = search rules in
    let j : ℕ = c.in-Err.new in
    let gap_there = from_both (Gap n j) c.deref-3.result.now slots c.remove.new.self.items (remove order i) c.deref-3.ensures.value e (c.in-Err.ensures.within, c.in-Err.ensures.before, c.in-Err.ensures.behind) in
    let gap = subst (λ (m : Key). Gap m j slots (remove order i)) new_parts gap_there in
    let lis = left_is (live 0 slots) r c.args.key up is_live order o i p.0 p.1 in
    let lli = left_live (live 0 slots) r c.args.key up is_live order o i p.0 p.1 in
    let lri = left_rising (live 0 slots) r c.args.key up is_live order o i p.0 p.1 in
    let within : j ≤ length (remove o.sorted i) = gap_within slots (remove order i) (remove o.sorted i) lis j gap.0 in
    let ordered : Ordered (rekeyed c.args.id c.args.key (live 0 slots)) (insert (remove order i) j c.args.id) =
    order_rekeyed (live 0 slots) r c.args.key up is_live order o i p.0 p.1 j within (before_in slots (remove order i) (remove o.sorted i) lis lli lri c.args.key j gap.0 gap.1 gap.2) (behind_in slots (remove order i) (remove o.sorted i) lis lli lri c.args.key j gap.0 gap.1 gap.2) in
    let order_is : c.insert.new.self.items ≡ insert (remove order i) j c.args.id = c.insert.ensures.items ∙ ap (λ (l : List ℕ). insert l j c.args.id) c.remove.ensures.items in
    to_both Ordered (live 0 c.set_key.new.slots.items) (rekeyed c.args.id c.args.key (live 0 slots)) c.insert.new.self.items (insert (remove order i) j c.args.id) c.set_key.ensures.rows order_is ordered
