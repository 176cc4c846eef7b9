use Rattle.std.proofs.Common.{◌≡◌, ℕ, length, subst, rules}
use Rattle.std.specs.Prelude.{IfOk, None}
use Rattle.arti_model.specs.Replies.{head_bytes}
use Rattle.arti_model.specs.Bodies.{error_body, json_kind}
use Rattle.arti_service.proofs.replies.refusal_head.Goals as goal

pub returns : goal.returns
returns c =
    let same : c.len.result ≡ length (error_body c.args.status c.args.message.now) = search rules in
    subst (λ (n : ℕ). IfOk c.response_head.result (λ v. v.items ≡ head_bytes c.args.status json_kind None n)) same c.response_head.ensures
