use Rattle.std.proofs.Common.{rules, ◌≡◌, Some, None, List, ℕ, ap, sym, subst, ◌∙◌}
use Rattle.std.specs.Prelude.{Option}
use Rattle.std.specs.BTreeMap.{get_by_text}
use Rattle.arti_ids.specs.Found.{list_under}
use Rattle.std.proofs.lemmas.Map.Text.{btree_map_updates_text}
use Rattle.arti_ids.specs.Lists.{ids_of, IsReady}
use Rattle.arti_props.specs.Lists.{list_in, list_at}
use Rattle.arti_ids.specs.TextMapLaws.{same, kept, on_ok, inserted}
use Rattle.arti_props.proofs.values.make_room.Goals as goal

pub returns-in-Some-clause-ids : goal.returns-in-Some-clause-ids
returns-in-Some-clause-ids c = λ k v.
    let w = c.make_room.new.self in
    let at : get_by_text c.args.values.now c.args.key.now ≡ Some c.in-Some.lists.now = search rules in
    same (get_by_text c.args.values.now) (get_by_text (c.get_mut.follows.lender w)) c.args.key.now (Some w) (btree_map_updates_text c.args.key.now c.args.values.now (c.get_mut.follows.lender w) (Some w) ((c.get_mut.follows.holds w).3 (search rules))) (λ o. ids_of (list_in o v)) (c.make_room.ensures.ids v ∙ ap (λ o. ids_of (list_in o v)) (sym at)) k

pub returns-in-Some-clause-keeps : goal.returns-in-Some-clause-keeps
returns-in-Some-clause-keeps c =
    let w = c.make_room.new.self in
    let at : get_by_text c.args.values.now c.args.key.now ≡ Some c.in-Some.lists.now = search rules in
    on_ok c.make_room.result ((t : List ℕ) → IsReady c.args.id (list_under c.in-Some.lists.now t) → IsReady c.args.id (list_under w t)) ((k v : List ℕ) → IsReady c.args.id (list_at c.args.values.now k v) → IsReady c.args.id (list_at (c.get_mut.follows.lender w) k v))
    (λ keeps k v. kept (get_by_text c.args.values.now) (get_by_text (c.get_mut.follows.lender w)) c.args.key.now (Some w) (btree_map_updates_text c.args.key.now c.args.values.now (c.get_mut.follows.lender w) (Some w) ((c.get_mut.follows.holds w).3 (search rules))) (λ o. IsReady c.args.id (list_in o v)) (λ was. keeps v (subst (λ (o : Option _). IsReady c.args.id (list_in o v)) at was)) k) c.make_room.ensures.keeps

pub returns-clause-ids : goal.returns-clause-ids
returns-clause-ids c = λ k v.
    let at : get_by_text c.args.values.now c.args.key.now ≡ None = search rules in
    let w = c.make_room-2.new.self in
    same (get_by_text c.args.values.now) (get_by_text c.insert.new.self) c.args.key.now (Some w) (inserted c.args.values.now c.get_mut.follows.lender-at-none c.insert.new.self c.in_ok-from_str.field-0 c.args.key.now w c.get_mut.follows.holds-at-none c.in_ok-insert.ensures.updates c.in_ok-from_str.ensures.ok)
    (λ o. ids_of (list_in o v)) (c.make_room-2.ensures.ids v ∙ ap ids_of (c.new-lists.ensures v) ∙ ap (λ o. ids_of (list_in o v)) (sym at)) k

pub returns-clause-keeps : goal.returns-clause-keeps
returns-clause-keeps c = λ k v.
    let at : get_by_text c.args.values.now c.args.key.now ≡ None = search rules in
    let w = c.make_room-2.new.self in
    kept (get_by_text c.args.values.now) (get_by_text c.insert.new.self) c.args.key.now (Some w) (inserted c.args.values.now c.get_mut.follows.lender-at-none c.insert.new.self c.in_ok-from_str.field-0 c.args.key.now w c.get_mut.follows.holds-at-none c.in_ok-insert.ensures.updates c.in_ok-from_str.ensures.ok)
    (λ o. IsReady c.args.id (list_in o v)) (λ was. absurd (subst (λ (o : Option _). IsReady c.args.id (list_in o v)) at was)) k
