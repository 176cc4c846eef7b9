use Rattle.std.proofs.Common.{rules, ◌≡◌, Some, None, List, ℕ, ap, sym, subst, ◌∙◌}
use Rattle.std.specs.BTreeMap.{get_by_text}
use Rattle.std.proofs.lemmas.Map.Text.{btree_map_updates_text}
use Rattle.arti_ids.specs.Lists.{ids_of, IsReady}
use Rattle.arti_ids.specs.TextMapLaws.{same, kept, on_ok, inserted}
use Rattle.arti_ids.proofs.text_lists.TextLists.make_room.Goals as goal

pub returns-in-Some-clause-ids : goal.returns-in-Some-clause-ids
returns-in-Some-clause-ids c =
    let w = c.make_room.new.self in
    let at : get_by_text c.args.self.now.lists c.args.text.now ≡ Some c.in-Some.ids.now = search rules in
    same (get_by_text c.args.self.now.lists) (get_by_text (c.get_mut.follows.lender w)) c.args.text.now (Some w) (btree_map_updates_text c.args.text.now c.args.self.now.lists (c.get_mut.follows.lender w) (Some w) ((c.get_mut.follows.holds w).3 (search rules)))
    ids_of (c.make_room.ensures.ids ∙ ap ids_of (sym at))

pub returns-in-Some-clause-keeps : goal.returns-in-Some-clause-keeps
returns-in-Some-clause-keeps c =
    let w = c.make_room.new.self in
    on_ok c.make_room.result (IsReady c.args.id (Some w)) ((t : List ℕ) → IsReady c.args.id (get_by_text c.args.self.now.lists t) → IsReady c.args.id (get_by_text (c.get_mut.follows.lender w) t)) (λ room. kept (get_by_text c.args.self.now.lists) (get_by_text (c.get_mut.follows.lender w)) c.args.text.now (Some w) (btree_map_updates_text c.args.text.now c.args.self.now.lists (c.get_mut.follows.lender w) (Some w) ((c.get_mut.follows.holds w).3 (search rules)))
    (IsReady c.args.id) (λ was. room)) (search rules)

pub returns-clause-ids : goal.returns-clause-ids
returns-clause-ids c =
    let at : get_by_text c.args.self.now.lists c.args.text.now ≡ None = search rules in
    same (get_by_text c.args.self.now.lists) (get_by_text c.insert.new.self) c.args.text.now (Some c.new.result) (inserted c.args.self.now.lists c.get_mut.follows.lender-at-none c.insert.new.self c.in_ok-from_str.field-0 c.args.text.now c.new.result c.get_mut.follows.holds-at-none c.in_ok-insert.ensures.updates c.in_ok-from_str.ensures.ok)
    ids_of (c.new.ensures.ids ∙ ap ids_of (sym at))

pub returns-clause-keeps : goal.returns-clause-keeps
returns-clause-keeps c =
    let at : get_by_text c.args.self.now.lists c.args.text.now ≡ None = search rules in
    kept (get_by_text c.args.self.now.lists) (get_by_text c.insert.new.self) c.args.text.now (Some c.new.result) (inserted c.args.self.now.lists c.get_mut.follows.lender-at-none c.insert.new.self c.in_ok-from_str.field-0 c.args.text.now c.new.result c.get_mut.follows.holds-at-none c.in_ok-insert.ensures.updates c.in_ok-from_str.ensures.ok)
    (IsReady c.args.id) (λ was. absurd (subst (IsReady c.args.id) at was))
