use Rattle.std.proofs.Common.{◌≡◌, Bool, sym, ap, ◌∙◌, rules}
use Rattle.std.proofs.lemmas.Result.{IfOk-weaker}
use Rattle.arti_model.specs.Bodies.{refused, refused_head}
use Rattle.arti_model.specs.Refusals.{message_of}
use Rattle.arti_model.specs.Perform.{told, refusal_reply}
use Rattle.arti_service.proofs.act.refusal_bytes.Goals as goal

pub returns-then-alone : goal.returns-then-alone
returns-then-alone c =
    let message : c.as_str.result.now ≡ message_of c.args.why.now = search rules in
    IfOk-weaker c.refusal_head.result _ _ (λ v is.
    is ∙ (λ i. refused_head (c.status_of.ensures.status i) (message i)) ∙ ap (λ (b : Bool). told b (refusal_reply c.args.why.now)) (sym c.if-alone.true)) c.refusal_head.ensures

pub returns : goal.returns
returns c =
    let message : c.as_str-2.result.now ≡ message_of c.args.why.now = search rules in
    IfOk-weaker c.refusal.result _ _ (λ v is.
    is ∙ (λ i. refused (c.status_of-2.ensures.status i) (message i)) ∙ ap (λ (b : Bool). told b (refusal_reply c.args.why.now)) (sym c.if-alone.false)) c.refusal.ensures
