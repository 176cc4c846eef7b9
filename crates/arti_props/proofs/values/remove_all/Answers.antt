use Rattle.std.proofs.Common.{◌≡◌, ap, sym, subst, ◌∙◌, rules}
use Rattle.std.proofs.lemmas.List.{get_or_default}
use Rattle.std.specs.Str.{bytes_eq}
use Rattle.std.specs.Prelude.{◌&&◌}
use Rattle.arti_rows.specs.declared.rows.Property.{Property}
use Rattle.arti_ids.specs.Ids.{with_id, without_id}
use Rattle.arti_ids.specs.IdLaws.{without_twice}
use Rattle.arti_ids.specs.Lists.{ids_of, IsReady}
use Rattle.arti_props.specs.Lists.{list_at}
use Rattle.arti_props.proofs.Pairs.{blank, step, skip, back}
use Rattle.arti_props.proofs.values.remove_all.Goals as goal
use Rattle.arti_props.proofs.values.remove_all.Goals.{then-not-is_found, else-not-is_found}

pub loop-pair-preserved : goal.loop-pair-preserved
loop-pair-preserved c =
    let i = c.loop-pair.pair-index in
    let item = c.pair-item.is ∙ get_or_default c.args.pairs.now i c.pair-item.result blank c.loop-pair-test.true in
    elim c.if-not-is_found.branch [
      | then-not-is_found w ↦
          let key = w.as_str.result.now in
          let value = w.as_str-then-not-is_found.result.now in
          let key_is = w.as_str.ensures ∙ ap (λ (p : Property). p.key) item in
          let value_is = w.as_str-then-not-is_found.ensures ∙ ap (λ (p : Property). p.value) item in
          let same : c.if-not-is_found.values ≡ w.remove.new.values = search rules in record {
            gone = λ k v none. ap (λ m. ids_of (list_at m k v)) same
                ∙ step c.args.pairs.now i c.loop-pair-test.true key value key_is value_is (without_id c.args.id) (without_twice c.args.id) k v (ids_of (list_at c.args.values.now k v)) (ids_of (list_at c.loop-pair.values k v)) (ids_of (list_at w.remove.new.values k v)) (c.loop-pair.invariant.gone k v none) (w.remove.ensures.ids k v);
            others = λ k v. back c.args.id (bytes_eq key k && bytes_eq value v) (ids_of (list_at c.args.values.now k v)) (ids_of (list_at c.loop-pair.values k v)) (ids_of (list_at c.if-not-is_found.values k v)) (c.loop-pair.invariant.others k v) (ap (λ m. ids_of (list_at m k v)) same ∙ w.remove.ensures.ids k v);
            ready = λ k v was. subst (λ m. IsReady c.args.id (list_at m k v)) (sym same) (w.remove.ensures.ready k v (c.loop-pair.invariant.ready k v was));
          }
      | else-not-is_found w ↦
          let key_is = ap (λ (p : Property). p.key) item in
          let value_is = ap (λ (p : Property). p.value) item in
          let same : c.if-not-is_found.values ≡ c.loop-pair.values = search rules in record {
            gone = λ k v none. ap (λ m. ids_of (list_at m k v)) same
                ∙ skip c.args.pairs.now i c.loop-pair-test.true c.pair-item.result.key c.pair-item.result.value key_is value_is c.args.stay.now (c.is_found.ensures (search rules)) (without_id c.args.id) k v (ids_of (list_at c.args.values.now k v)) (ids_of (list_at c.loop-pair.values k v)) none (c.loop-pair.invariant.gone k v none);
            others = λ k v. ap (λ m. with_id c.args.id (ids_of (list_at m k v))) same ∙ c.loop-pair.invariant.others k v;
            ready = λ k v was. subst (λ m. IsReady c.args.id (list_at m k v)) (sym same) (c.loop-pair.invariant.ready k v was);
          }
    ]
