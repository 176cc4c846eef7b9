use Rattle.std.proofs.Common.{[], ap, ◌∙◌}
use Rattle.std.specs.Prelude.{pos, None}
use Rattle.std.proofs.lemmas.Result.{IfOk-weaker}
use Rattle.arti_model.specs.Decide.{file_of_body}
use Rattle.arti_service.specs.Decisions.{outcome}
use Rattle.arti_service.proofs.Doing.{has_status, whole_in}
use Rattle.arti_service.proofs.answering.query_act.Goals as goal

pub prepare-requires : goal.prepare-requires
prepare-requires c = has_status c.args.store.now None c.in_ok-decision.decision (c.in_ok-decision.ensures.decides (file_of_body []) (pos 0)).may

pub returns-clause-done : goal.returns-clause-done
returns-clause-done c =
    IfOk-weaker c.prepare.result _ _ (λ a is bytes limits s sent moment whole.
    let decides = c.in_ok-decision.ensures.decides sent moment in
    ap outcome (is bytes limits s (whole_in bytes c.args.store.now whole None c.in_ok-decision.decision decides.may)) ∙ decides.means bytes whole limits s c.args.alone) c.prepare.ensures.done

pub returns-clause-may : goal.returns-clause-may
returns-clause-may c = c.prepare.ensures.may c.args.store.now None (c.in_ok-decision.ensures.decides (file_of_body []) (pos 0)).may
