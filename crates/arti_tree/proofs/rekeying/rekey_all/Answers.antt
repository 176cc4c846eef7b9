use Rattle.std.proofs.Common.{◌≡◌, ◌∷◌, List, length, get_or, ap, arith, rules}
use Rattle.arti_rows.specs.Key.{Key}
use Rattle.std.specs.Vec.Iter.{into_iter_items}
use Rattle.arti_tree.specs.Slots.{live}
use Rattle.arti_tree.proofs.Rekeys.{more_ids, first_one, some_slot}
use Rattle.arti_tree.proofs.rekeying.rekey_all.Goals as goal

pub rekey-requires-clause-live : goal.rekey-requires-clause-live
rekey-requires-clause-live c =
    let inv = c.loop-key.invariant in
    let ids = c.args.ids.now in
    let i = c.loop-key.i in
    let step : into_iter_items c.loop-key.key-iterator ≡ c.in-Some.key ∷ into_iter_items c.next.new.self = search rules in
    let below = more_ids ids i (into_iter_items c.loop-key.key-iterator) c.in-Some.key (into_iter_items c.next.new.self) inv.2.each step in
    let first = first_one (live 0 c.args.slots.now.items) (live 0 c.loop-key.slots.items) ids ids c.args.keys.items (into_iter_items c.loop-key.key-iterator) i c.in-Some.key (into_iter_items c.next.new.self) inv.2 step below in
    some_slot c.loop-key.slots.items (get_or ids i 0) first.can.0

pub rekey-requires-clause-room : goal.rekey-requires-clause-room
rekey-requires-clause-room c =
    let step : into_iter_items c.loop-key.key-iterator ≡ c.in-Some.key ∷ into_iter_items c.next.new.self = search rules in
    omega (arith, c.loop-key.invariant.4, ap (λ (l : List Key). length l) step)
