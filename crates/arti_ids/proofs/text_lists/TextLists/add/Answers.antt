use Rattle.std.proofs.Common.{rules, ◌≡◌, Some, ap, sym, ◌∙◌, inr}
use Rattle.std.specs.Prelude.{◌==◌}
use Rattle.std.specs.List.{list_any}
use Rattle.std.specs.BTreeMap.{get_by_text}
use Rattle.std.proofs.lemmas.Map.Text.{btree_map_updates_text}
use Rattle.arti_ids.specs.Ids.{with_id}
use Rattle.arti_ids.specs.Lists.{ids_of, IsReady}
use Rattle.arti_ids.specs.TextMapLaws.{after, kept}
use Rattle.arti_ids.specs.IdLaws.{has_with}
use Rattle.arti_ids.proofs.text_lists.TextLists.add.Goals as goal

pub returns-in-Some-clause-ids : goal.returns-in-Some-clause-ids
returns-in-Some-clause-ids c =
    let w = c.add.new.self in
    let at : get_by_text c.args.self.now.lists c.args.text.now ≡ Some c.in-Some.ids.now = search rules in
    after (get_by_text c.args.self.now.lists) (get_by_text (c.get_mut.follows.lender w)) c.args.text.now (Some w) (btree_map_updates_text c.args.text.now c.args.self.now.lists (c.get_mut.follows.lender w) (Some w) ((c.get_mut.follows.holds w).3 (search rules)))
    ids_of (with_id c.args.id) (c.add.ensures.ids ∙ ap (λ o. with_id c.args.id (ids_of o)) (sym at))

pub returns-in-Some-clause-ready : goal.returns-in-Some-clause-ready
returns-in-Some-clause-ready c =
    let w = c.add.new.self in
    kept (get_by_text c.args.self.now.lists) (get_by_text (c.get_mut.follows.lender w)) c.args.text.now (Some w) (btree_map_updates_text c.args.text.now c.args.self.now.lists (c.get_mut.follows.lender w) (Some w) ((c.get_mut.follows.holds w).3 (search rules)))
    (IsReady c.args.id) (λ was. inr (ap (list_any (λ x. x == c.args.id)) c.add.ensures.ids ∙ has_with c.args.id c.in-Some.ids.now.ids))
