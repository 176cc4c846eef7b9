use Rattle.std.proofs.Common.{subst}
use Rattle.arti_service.specs.Decisions.{MayDo}
use Rattle.arti_service.proofs.act.prepare.Goals as goal

pub returns-in-Refused-clause-may : goal.returns-in-Refused-clause-may
returns-in-Refused-clause-may c = λ v staged may. c.refusal_act.ensures.may v staged

pub returns-in-Tells-clause-may : goal.returns-in-Tells-clause-may
returns-in-Tells-clause-may c = λ v staged may. c.tell_act.ensures.may v staged (subst (MayDo v staged) c.in-Tells.is may).kept

pub returns-in-Makes-clause-may : goal.returns-in-Makes-clause-may
returns-in-Makes-clause-may c = λ v staged may.
    let both = subst (MayDo v staged) c.in-Makes.is may in
    c.commit_act.ensures.may v staged both.0 both.1.kept
