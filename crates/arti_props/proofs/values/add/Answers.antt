use Rattle.std.proofs.Common.{rules, ◌≡◌, Some, List, ℕ, ap, sym, subst, ◌∙◌, cond}
use Rattle.std.specs.Prelude.{Option}
use Rattle.std.specs.Str.{bytes_eq}
use Rattle.std.specs.BTreeMap.{get_by_text}
use Rattle.std.proofs.lemmas.Map.Text.{btree_map_updates_text}
use Rattle.arti_ids.specs.Ids.{with_id}
use Rattle.arti_ids.specs.Lists.{ids_of, IsReady}
use Rattle.arti_props.specs.Lists.{list_in, list_at}
use Rattle.arti_ids.specs.TextMapLaws.{after, kept, cond_both}
use Rattle.arti_props.proofs.values.add.Goals as goal

pub returns-in-Some-clause-ids : goal.returns-in-Some-clause-ids
returns-in-Some-clause-ids c = λ k v.
    let w = c.add.new.self in
    let at : get_by_text c.args.values.now c.args.key.now ≡ Some c.in-Some.lists.now = search rules in
    let value = c.args.value.now in
    let change : (o : Option _) → List ℕ = λ o. cond (bytes_eq value v) (with_id c.args.id (ids_of (list_in o v))) (ids_of (list_in o v)) in
    after (get_by_text c.args.values.now) (get_by_text (c.get_mut.follows.lender w)) c.args.key.now (Some w) (btree_map_updates_text c.args.key.now c.args.values.now (c.get_mut.follows.lender w) (Some w) ((c.get_mut.follows.holds w).3 (search rules))) (λ o. ids_of (list_in o v)) (λ l. cond (bytes_eq value v) (with_id c.args.id l) l) (c.add.ensures.ids v ∙ ap change (sym at)) k
    ∙ cond_both (bytes_eq c.args.key.now k) (bytes_eq value v) (with_id c.args.id (ids_of (list_at c.args.values.now k v))) (ids_of (list_at c.args.values.now k v))

pub returns-in-Some-clause-ready : goal.returns-in-Some-clause-ready
returns-in-Some-clause-ready c = λ k v.
    let w = c.add.new.self in
    let at : get_by_text c.args.values.now c.args.key.now ≡ Some c.in-Some.lists.now = search rules in
    kept (get_by_text c.args.values.now) (get_by_text (c.get_mut.follows.lender w)) c.args.key.now (Some w) (btree_map_updates_text c.args.key.now c.args.values.now (c.get_mut.follows.lender w) (Some w) ((c.get_mut.follows.holds w).3 (search rules))) (λ o. IsReady c.args.id (list_in o v)) (λ was. c.add.ensures.ready v (subst (λ (o : Option _). IsReady c.args.id (list_in o v)) at was)) k
