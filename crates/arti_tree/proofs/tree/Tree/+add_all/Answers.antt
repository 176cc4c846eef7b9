use Rattle.std.proofs.Common.{◌≡◌, ℕ, ◌+◌, ◌<◌, ◌^◌, Bool, List, [], ◌∷◌, ◌++◌, length, get_or, Option, Some, None, refl, sym, ap, ◌∙◌, subst, arith, rules}
use Rattle.std.specs.Prelude.{◌&&◌, IfSome, IsSome}
use Rattle.std.specs.List.{remove, find}
use Rattle.arti_rows.specs.Key.{Key}
use Rattle.arti_tree.specs.Rows.{Row, row_of, lies_in, with_row, without_row}
use Rattle.arti_tree.specs.Adds.{is_end}
use Rattle.arti_tree.specs.Chains.{CanAdd, Pushes, PushesNext}
use Rattle.arti_tree.proofs.Chaining.{first_rest, row_undone, pushes_more, can_next, live_new, empty_new, new_long, next_more}
use Rattle.arti_tree.proofs.tree.Tree.+add_all.Goals as goal

whole_of_keys : (items rest : List Key) (k : Key) → 0 < length items → k ≡ get_or items 0 k → rest ≡ remove items 0 → items ≡ k ∷ rest
whole_of_keys items rest k some is left = first_rest items k some is ∙ ap (λ (l : List Key). k ∷ l) (sym left)

added_as : (rows new : List Row) (id : ℕ) (k : Key) (keys now : List Key) (is_file as_file : Bool) → new ≡ with_row (record { id = id; key = k; is_file = as_file }) rows → as_file ≡ (is_file && is_end now) → now ≡ keys
    → new ≡ with_row (record { id = id; key = k; is_file = is_file && is_end keys }) rows
added_as rows new id k keys now is_file as_file e f g = e ∙ ap (λ (b : Bool). with_row (record { id = id; key = k; is_file = b }) rows) (f ∙ ap (λ (l : List Key). is_file && is_end l) g)

some_of : (o : Option Row) (r : Row) → o ≡ Some r → IsSome o
some_of o r e = subst (λ (x : Option Row). IsSome x) (sym e) refl

if_of : (o : Option Row) (r : Row) (P : Row → Type 0) → o ≡ Some r → P r → IfSome o P
if_of o r P e p = subst (λ (x : Option Row). IfSome x P) (sym e) p

pub add_all-requires : goal.add_all-requires
add_all-requires t c =
    let k : Key = c.remove-key.result in
    let rest : List Key = c.remove-key.new.self.items in
    let some : 0 < length c.args.keys.items = search rules in
    let whole = whole_of_keys c.args.keys.items rest k some c.remove-key.ensures.value c.remove-key.ensures.items in
    let can = subst (λ (l : List Key). CanAdd c.args.self.now l) whole c.requires.can in
    let few = subst (λ (l : List Key). length c.args.self.now + length l < 2 ^ 32) whole c.requires.few in
    let new = added_as c.args.self.now c.add.new.self c.in_ok-id.id k rest c.deref.result.now c.args.is_file c.is_last_file-as_file.result c.in_ok-id.ensures.added c.is_last_file-as_file.ensures c.deref.ensures.value in
    let one : length c.args.self.now + 1 < 2 ^ 32 = omega (arith, few) in
    let down : length rest + 1 ≡ length c.args.keys.items = sym (ap (λ (l : List Key). length l) whole ∙ omega arith) in
    let long : length c.add.new.self ≡ length c.args.self.now + 1 = ap (λ (l : List Row). length l) new ∙ new_long c.args.self.now c.rules.ensures k rest c.args.is_file c.in_ok-id.id can c.in_ok-id.ensures.fresh one in (
      omega (arith, c.decreases, down),
      (
        subst (λ (l : List Row). CanAdd l rest) (sym new) (can_next c.args.self.now c.rules.ensures k rest c.args.is_file c.in_ok-id.id can c.in_ok-id.ensures.fresh one),
        (
          omega (arith, long, few),
          omega (arith, c.push_ready.ensures.len, c.requires.room, down, c.push_ready.ensures.capacity),
        ),
      ),
    )

pub drop_row-requires-clause-live : goal.drop_row-requires-clause-live
drop_row-requires-clause-live t c =
    let k : Key = c.remove-key.result in
    let rest : List Key = c.remove-key.new.self.items in
    let some : 0 < length c.args.keys.items = search rules in
    let whole = whole_of_keys c.args.keys.items rest k some c.remove-key.ensures.value c.remove-key.ensures.items in
    let can = subst (λ (l : List Key). CanAdd c.args.self.now l) whole c.requires.can in
    let few = subst (λ (l : List Key). length c.args.self.now + length l < 2 ^ 32) whole c.requires.few in
    let new = added_as c.args.self.now c.add.new.self c.in_ok-id.id k rest c.deref.result.now c.args.is_file c.is_last_file-as_file.result c.in_ok-id.ensures.added c.is_last_file-as_file.ensures c.deref.ensures.value in
    let now = c.in-Err.ensures.unchanged ∙ new in
    some_of (row_of c.add_all.new.self c.in_ok-id.id) (record { id = c.in_ok-id.id; key = k; is_file = c.args.is_file && is_end rest })
    (ap (λ (l : List Row). row_of l c.in_ok-id.id) now ∙ live_new c.args.self.now c.rules.ensures k rest c.args.is_file c.in_ok-id.id can c.in_ok-id.ensures.fresh (omega (arith, few)))

pub drop_row-requires-clause-empty : goal.drop_row-requires-clause-empty
drop_row-requires-clause-empty t c =
    let k : Key = c.remove-key.result in
    let rest : List Key = c.remove-key.new.self.items in
    let some : 0 < length c.args.keys.items = search rules in
    let whole = whole_of_keys c.args.keys.items rest k some c.remove-key.ensures.value c.remove-key.ensures.items in
    let can = subst (λ (l : List Key). CanAdd c.args.self.now l) whole c.requires.can in
    let few = subst (λ (l : List Key). length c.args.self.now + length l < 2 ^ 32) whole c.requires.few in
    let new = added_as c.args.self.now c.add.new.self c.in_ok-id.id k rest c.deref.result.now c.args.is_file c.is_last_file-as_file.result c.in_ok-id.ensures.added c.is_last_file-as_file.ensures c.deref.ensures.value in
    let now = c.in-Err.ensures.unchanged ∙ new in
    let one : length c.args.self.now + 1 < 2 ^ 32 = omega (arith, few) in
    if_of (row_of c.add_all.new.self c.in_ok-id.id) (record { id = c.in_ok-id.id; key = k; is_file = c.args.is_file && is_end rest }) (λ r. find (lies_in r.key) c.add_all.new.self ≡ None)
    (ap (λ (l : List Row). row_of l c.in_ok-id.id) now ∙ live_new c.args.self.now c.rules.ensures k rest c.args.is_file c.in_ok-id.id can c.in_ok-id.ensures.fresh one)
    (ap (λ (l : List Row). find (lies_in k) l) now ∙ empty_new c.args.self.now c.rules.ensures k rest c.args.is_file c.in_ok-id.id can c.in_ok-id.ensures.fresh one)

pub returns-in-Err-clause-unchanged : goal.returns-in-Err-clause-unchanged
returns-in-Err-clause-unchanged t c =
    let k : Key = c.remove-key.result in
    let rest : List Key = c.remove-key.new.self.items in
    let new = added_as c.args.self.now c.add.new.self c.in_ok-id.id k rest c.deref.result.now c.args.is_file c.is_last_file-as_file.result c.in_ok-id.ensures.added c.is_last_file-as_file.ensures c.deref.ensures.value in
    let now = c.in-Err.ensures.unchanged ∙ new in
    c.drop_row.ensures ∙ ap (λ (l : List Row). without_row c.in_ok-id.id l) now ∙ row_undone (record { id = c.in_ok-id.id; key = k; is_file = c.args.is_file && is_end rest }) c.args.self.now c.in_ok-id.ensures.fresh

pub returns-clause-added : goal.returns-clause-added
returns-clause-added t c =
    let k : Key = c.remove-key.result in
    let rest : List Key = c.remove-key.new.self.items in
    let some : 0 < length c.args.keys.items = search rules in
    let whole = whole_of_keys c.args.keys.items rest k some c.remove-key.ensures.value c.remove-key.ensures.items in
    let new = added_as c.args.self.now c.add.new.self c.in_ok-id.id k rest c.deref.result.now c.args.is_file c.is_last_file-as_file.result c.in_ok-id.ensures.added c.is_last_file-as_file.ensures c.deref.ensures.value in
    let pushed : Pushes c.add.new.self rest c.args.is_file c.push_ready.new.ids.items c.add_all.new.ids.items c.add_all.new.self = c.in_default.ensures.added in
    subst (λ (l : List Key). Pushes c.args.self.now l c.args.is_file c.args.ids.now.items c.add_all.new.ids.items c.add_all.new.self) (sym whole)
    (pushes_more c.args.self.now c.add_all.new.self k rest c.args.is_file c.args.ids.now.items c.add_all.new.ids.items c.in_ok-id.id c.in_ok-id.ensures.fresh
    (subst (λ (l : List Row). Pushes l rest c.args.is_file (c.args.ids.now.items ++ c.in_ok-id.id ∷ []) c.add_all.new.ids.items c.add_all.new.self) new
    (subst (λ (l : List ℕ). Pushes c.add.new.self rest c.args.is_file l c.add_all.new.ids.items c.add_all.new.self) c.push_ready.ensures.items pushed)))

pub returns-clause-next : goal.returns-clause-next
returns-clause-next t c =
    let k : Key = c.remove-key.result in
    let rest : List Key = c.remove-key.new.self.items in
    let r : Row = record { id = c.in_ok-id.id; key = k; is_file = c.args.is_file && is_end rest } in
    let new = added_as c.args.self.now c.add.new.self c.in_ok-id.id k rest c.deref.result.now c.args.is_file c.is_last_file-as_file.result c.in_ok-id.ensures.added c.is_last_file-as_file.ensures c.deref.ensures.value in
    let pushed : PushesNext c.add.new.self c.push_ready.new.ids.items c.add_all.new.ids.items = c.in_default.ensures.next in
    next_more c.args.self.now r c.args.ids.now.items c.add_all.new.ids.items c.in_ok-id.ensures.next
    (subst (λ (l : List Row). PushesNext l (c.args.ids.now.items ++ c.in_ok-id.id ∷ []) c.add_all.new.ids.items) new
    (subst (λ (l : List ℕ). PushesNext c.add.new.self l c.add_all.new.ids.items) c.push_ready.ensures.items pushed))
