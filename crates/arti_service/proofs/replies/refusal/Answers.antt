use Rattle.std.proofs.Common.{◌≡◌, List, ℕ, subst, rules}
use Rattle.std.specs.Prelude.{IfOk}
use Rattle.arti_model.specs.Bodies.{error_body, json_reply}
use Rattle.arti_service.proofs.replies.refusal.Goals as goal

pub returns : goal.returns
returns c =
    let same : c.deref.result.now ≡ error_body c.args.status c.args.message.now = search rules in
    subst (λ (body : List ℕ). IfOk c.with_json.result (λ v. v.items ≡ json_reply c.args.status body)) same c.with_json.ensures
