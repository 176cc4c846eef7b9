use Rattle.std.proofs.Common.{◌<◌, ◌⊎◌, length, take, drop, sym, ap, ◌∙◌, subst, inl, inr, arith}
use Rattle.arti_aql_parse.specs.Thin.{AsksFor}
use Rattle.arti_aql_parse.proofs.ThinFronts.{leaves_lead, leaves_key, leaves_tail, asks}
use Rattle.arti_aql_parse.proofs.thin.key_of.Goals as goal
use Rattle.arti_aql_parse.proofs.thin.key_of.Goals.{then-close-lt3-via-then-close-lt3, then-close-lt3-via-else-close-lt3+then-close-tail}

pub returns-then-lead-lt20-clause-not_yet : goal.returns-then-lead-lt20-clause-not_yet
returns-then-lead-lt20-clause-not_yet c = let e = c.common_len-lead.ensures in leaves_lead c.args.body.now c.common_len-lead.result c.if-lead-lt20.true e.in_a e.same (λ lt. e.differs lt c.if-lead-lt20.true)

pub returns-then-len-eq0-clause-not_yet : goal.returns-then-len-eq0-clause-not_yet
returns-then-len-eq0-clause-not_yet c =
    let e = c.common_len-lead.ensures in
    let k = rw c.split_at.ensures.back at c.key_len-len.ensures in
    leaves_key c.args.body.now (omega (arith, e.in_a)) (λ i lt. e.same i (omega arith)) c.key_len-len.result k.within k.few k.each k.stops c.if-len-eq0.true

pub returns-then-close-lt3-clause-not_yet : goal.returns-then-close-lt3-clause-not_yet
returns-then-close-lt3-clause-not_yet c =
    let e = c.common_len-lead.ensures in
    let k = rw c.split_at.ensures.back at c.key_len-len.ensures in
    let t = c.common_len-close.ensures in
    let left : (c.common_len-close.result < 3) ⊎ (c.common_len-close.result < length c.split_at-2.result.1.now) = elim c.then-close-lt3.branch [ then-close-lt3-via-then-close-lt3 w ↦ inl w.if-close-lt3.true | then-close-lt3-via-else-close-lt3+then-close-tail w ↦ inr w.if-close-tail.true ] in
    leaves_tail c.args.body.now (omega (arith, e.in_a)) (λ i lt. e.same i (omega arith)) c.key_len-len.result k.within k.few k.each k.stops c.common_len-close.result c.split_at-2.result.1.now (omega arith)
    (c.split_at-2.ensures.back ∙ ap (drop c.key_len-len.result) c.split_at.ensures.back) t.in_b t.in_a t.same t.differs left

pub returns-clause-found : goal.returns-clause-found
returns-clause-found c =
    let e = c.common_len-lead.ensures in
    let k = rw c.split_at.ensures.back at c.key_len-len.ensures in
    let t = c.common_len-close.ensures in
    subst (AsksFor c.args.body.now) (sym (c.split_at-2.ensures.front ∙ ap (take c.key_len-len.result) c.split_at.ensures.back))
    (asks c.args.body.now (omega (arith, e.in_a)) (λ i lt. e.same i (omega arith)) c.key_len-len.result k.within k.few k.each k.stops c.common_len-close.result c.split_at-2.result.1.now (omega arith)
    (c.split_at-2.ensures.back ∙ ap (drop c.key_len-len.result) c.split_at.ensures.back) (omega arith) t.in_a (omega arith) t.same t.in_b)
