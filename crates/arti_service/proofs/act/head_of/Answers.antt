use Rattle.std.proofs.Common.{◌≡◌, ℕ, length, Some, None, sym, ap, subst, ◌∙◌, rules}
use Rattle.std.proofs.lemmas.Result.{IfOk-weaker}
use Rattle.arti_blobs.specs.Contents.{content}
use Rattle.arti_model.specs.Bodies.{json_kind, content_kind}
use Rattle.arti_model.specs.Replies.{head_bytes}
use Rattle.arti_model.specs.Perform.{head_of}
use Rattle.arti_service.specs.Acts.{IsWholeBody}
use Rattle.arti_service.specs.Decisions.{body_in}
use Rattle.arti_service.specs.declared.decision.Body.{Body}
use Rattle.arti_service.proofs.act.head_of.Goals as goal

pub returns-in-Json : goal.returns-in-Json
returns-in-Json c =
    let status = c.args.reply.now.status in
    let long : c.len.result ≡ length c.in-Json.text.items = search rules in
    IfOk-weaker c.response_head.result _ _ (λ v is bytes whole.
    is ∙ ap (λ (n : ℕ). head_bytes status json_kind None n) long ∙ ap (λ (b : Body). head_of (body_in bytes status b)) (sym c.in-Json.is)) c.response_head.ensures

pub returns-in-Kept : goal.returns-in-Kept
returns-in-Kept c =
    let status = c.args.reply.now.status in
    let file = c.in-Kept.file in
    IfOk-weaker c.response_head-in-Kept.result _ _ (λ v is bytes whole.
    let long : length (content bytes file) ≡ file.len = subst (IsWholeBody bytes) c.in-Kept.is whole in
    is ∙ ap (λ (n : ℕ). head_bytes status content_kind (Some file.digests) n) (sym long) ∙ ap (λ (b : Body). head_of (body_in bytes status b)) (sym c.in-Kept.is)) c.response_head-in-Kept.ensures
