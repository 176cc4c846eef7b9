use Rattle.std.proofs.Common.{ap, ◌∙◌}
use Rattle.std.proofs.lemmas.List.{get_or_default}
use Rattle.arti_rows.specs.declared.rows.Property.{Property}
use Rattle.arti_ids.specs.Ids.{with_id}
use Rattle.arti_ids.specs.Lists.{ids_of}
use Rattle.arti_props.specs.Lists.{list_at}
use Rattle.arti_ids.specs.IdLaws.{with_twice}
use Rattle.arti_props.proofs.Pairs.{blank, any_here, step}
use Rattle.arti_props.proofs.values.add_all.Goals as goal

pub add-requires : goal.add-requires
add-requires c =
    let item = c.pair-item.is ∙ get_or_default c.args.pairs.now c.loop-pair.pair-index c.pair-item.result blank c.loop-pair-test.true in
    let key_is = c.as_str.ensures ∙ ap (λ (p : Property). p.key) item in
    let value_is = c.as_str-in-loop-pair.ensures ∙ ap (λ (p : Property). p.value) item in
    record { ready = c.loop-pair.invariant.ready c.as_str.result.now c.as_str-in-loop-pair.result.now (any_here c.args.pairs.now c.loop-pair.pair-index c.loop-pair-test.true c.as_str.result.now c.as_str-in-loop-pair.result.now key_is value_is) }

pub loop-pair-preserved : goal.loop-pair-preserved
loop-pair-preserved c =
    let item = c.pair-item.is ∙ get_or_default c.args.pairs.now c.loop-pair.pair-index c.pair-item.result blank c.loop-pair-test.true in
    let key_is = c.as_str.ensures ∙ ap (λ (p : Property). p.key) item in
    let value_is = c.as_str-in-loop-pair.ensures ∙ ap (λ (p : Property). p.value) item in
    record {
      ids = λ k v. step c.args.pairs.now c.loop-pair.pair-index c.loop-pair-test.true c.as_str.result.now c.as_str-in-loop-pair.result.now key_is value_is (with_id c.args.id) (with_twice c.args.id) k v (ids_of (list_at c.args.values.now k v)) (ids_of (list_at c.loop-pair.values k v)) (ids_of (list_at c.add.new.values k v)) (c.loop-pair.invariant.ids k v) (c.add.ensures.ids k v);
      ready = λ k v has. c.add.ensures.ready k v (c.loop-pair.invariant.ready k v has);
    }
