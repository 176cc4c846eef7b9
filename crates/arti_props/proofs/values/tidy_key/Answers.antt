use Rattle.std.proofs.Common.{rules, ◌≡◌, Some, ap, sym, ◌∙◌}
use Rattle.std.specs.BTreeMap.{get_by_text}
use Rattle.std.proofs.lemmas.Map.Text.{btree_map_updates_text}
use Rattle.arti_ids.specs.Lists.{ids_of}
use Rattle.arti_props.specs.Lists.{list_in}
use Rattle.arti_ids.specs.TextMapLaws.{same}
use Rattle.arti_props.proofs.values.tidy_key.Goals as goal

pub returns-in-Some-clause-ids : goal.returns-in-Some-clause-ids
returns-in-Some-clause-ids c = λ k v.
    let w = c.tidy.new.self in
    let at : get_by_text c.args.values.now c.args.key.now ≡ Some c.in-Some.lists.now = search rules in
    same (get_by_text c.args.values.now) (get_by_text (c.get_mut.follows.lender w)) c.args.key.now (Some w) (btree_map_updates_text c.args.key.now c.args.values.now (c.get_mut.follows.lender w) (Some w) ((c.get_mut.follows.holds w).3 (search rules))) (λ o. ids_of (list_in o v)) (c.tidy.ensures.ids v ∙ ap (λ o. ids_of (list_in o v)) (sym at)) k
