use Rattle.std.proofs.Common.{◌≡◌, List, ℕ, subst, ⊎_elim, true, ap, ◌∙◌, take}
use Rattle.std.specs.List.{list_any}
use Rattle.std.proofs.lemmas.List.{get_or_default}
use Rattle.arti_rows.specs.declared.rows.Property.{Property}
use Rattle.arti_ids.specs.Lists.{IsReady}
use Rattle.arti_props.specs.Lists.{list_at}
use Rattle.arti_props.specs.Rows.{is_pair}
use Rattle.arti_props.proofs.Pairs.{blank, any_cases}
use Rattle.arti_props.proofs.values.make_rooms.Goals as goal

pub loop-pair-preserved : goal.loop-pair-preserved
loop-pair-preserved c =
    let item = c.pair-item.is ∙ get_or_default c.args.pairs.now c.loop-pair.pair-index c.pair-item.result blank c.loop-pair-test.true in
    let key_is = c.as_str.ensures ∙ ap (λ (p : Property). p.key) item in
    let value_is = c.as_str-in-loop-pair.ensures ∙ ap (λ (p : Property). p.value) item in
    record {
      ids = λ k v. c.make_room.ensures.ids k v ∙ c.loop-pair.invariant.ids k v;
      ready = λ k v has. ⊎_elim
          (λ (was : list_any (is_pair k v) (take c.loop-pair.pair-index c.args.pairs.now) ≡ true). c.in_ok-make_room.ensures.keeps k v (c.loop-pair.invariant.ready k v was))
          (λ (is : (c.as_str.result.now ≡ k) × (c.as_str-in-loop-pair.result.now ≡ v)). subst (λ (x : List ℕ). IsReady c.args.id (list_at c.make_room.new.values x v)) is.0 (subst (λ (x : List ℕ). IsReady c.args.id (list_at c.make_room.new.values c.as_str.result.now x)) is.1 c.in_ok-make_room.ensures.ready))
          (any_cases c.args.pairs.now c.loop-pair.pair-index c.loop-pair-test.true c.as_str.result.now c.as_str-in-loop-pair.result.now key_is value_is k v has);
    }
