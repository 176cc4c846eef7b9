use Rattle.std.proofs.Common.{sym, subst}
use Rattle.std.specs.Prelude.{IfOk, None}
use Rattle.arti_service.specs.declared.ask.Asked.{Asked}
use Rattle.arti_service.specs.Asks.{asked_is}
use Rattle.arti_service.specs.Decisions.{Decides, asked_over}
use Rattle.arti_service.proofs.answering.decide.Goals as goal

pub returns-in-DeployFound : goal.returns-in-DeployFound
returns-in-DeployFound c = λ body sent.
    let v = c.args.store.now in
    subst (λ (a : Asked). IfOk c.decide_deploy_found.result (Decides v None (λ bytes. asked_over bytes v (asked_is a) body sent c.args.moment))) (sym c.in-DeployFound.is) (c.decide_deploy_found.ensures body sent)

pub returns-in-Fetch : goal.returns-in-Fetch
returns-in-Fetch c = λ body sent.
    let v = c.args.store.now in
    subst (λ (a : Asked). IfOk c.decide_fetch.result (Decides v None (λ bytes. asked_over bytes v (asked_is a) body sent c.args.moment))) (sym c.in-Fetch.is) (c.decide_fetch.ensures body sent)
