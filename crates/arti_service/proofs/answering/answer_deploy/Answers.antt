use Rattle.std.proofs.Common.{◌≡◌, [], refl, sym, ap, subst, rules}
use Rattle.arti_store.specs.Store.{shows}
use Rattle.std.specs.Prelude.{Result, Err, Some}
use Rattle.arti_model.specs.Decide.{file_of_body}
use Rattle.arti_service.specs.Acts.{ActsFor}
use Rattle.arti_service.specs.declared.answering.Stop.{Stop}
use Rattle.arti_service.specs.declared.answering.Stop.TheVariants as stop
use Rattle.arti_service.proofs.Commits.{standing_acts}
use Rattle.arti_store.specs.ImageLaws.{supplies_told}
use Rattle.arti_service.proofs.Doing.{answered, deploy_acts}
use Rattle.arti_service.proofs.Wholes.{staged_whole}
use Rattle.arti_service.proofs.answering.answer_deploy.Goals as goal

pub returns-in-Err-clause-acts : goal.returns-in-Err-clause-acts
returns-in-Err-clause-acts g c = λ gt.
    let x = g.G.Ground.state c.args.ground.now in
    let v = c.args.store.now in
    standing_acts v.limits c.args.line (answered c.args.line c.args.alone c.args.key c.args.wanted.now c.args.body.now c.args.moment v.limits (shows x v) (file_of_body c.args.body.now))
    c.in-Err.stop x (g.G.Ground.state c.stage.new.ground) v c.stage.new.store (λ disk memory. disk (ap (λ (w : Stop). Err w) c.in-Err.ensures.stops)) c.requires.ready (c.in-Err.ensures.told gt) (c.in-Err.ensures.moments gt)

pub returns-in_err-decision-clause-acts : goal.returns-in_err-decision-clause-acts
returns-in_err-decision-clause-acts g c = λ gt.
    let x = g.G.Ground.state c.args.ground.now in
    let mid = g.G.Ground.state c.stage.new.ground in
    let v = c.args.store.now in
    let answer = answered c.args.line c.args.alone c.args.key c.args.wanted.now c.args.body.now c.args.moment v.limits (shows x v) (file_of_body c.args.body.now) in
    let from : c.from_residual.result ≡ Err stop.Memory = search rules in
    subst (λ (r : Result (Unit {0}) Stop). ActsFor v.limits c.args.line answer r x mid v c.stage.new.store) (sym from)
    (standing_acts v.limits c.args.line answer stop.Memory x mid v c.stage.new.store (λ disk memory. memory refl) c.requires.ready (c.in-Ok.ensures.told gt) (c.in-Ok.ensures.moments gt))

pub perform-requires-clause-may : goal.perform-requires-clause-may
perform-requires-clause-may g c = (c.in_ok-decision.ensures c.args.body.now).may

pub returns-clause-acts : goal.returns-clause-acts
returns-clause-acts g c = λ gt.
    let x0 = g.G.Ground.state c.args.ground.now in
    let x1 = g.G.Ground.state c.stage.new.ground in
    let v1 = c.stage.new.store in
    let whole = staged_whole x1 v1 (c.in-Ok.ensures.holds gt c.in-Ok.ensures.ready.still_open) (Some c.in-Ok.staged) (supplies_told x1 v1.contents (Some c.in-Ok.staged) [] gt c.in-Ok.ensures.supplies) in
    deploy_acts c.args.line c.args.alone c.args.key c.args.wanted.now c.args.body.now c.args.moment c.perform.result x0 x1 (g.G.Ground.state c.perform.new.ground) c.args.store.now v1 c.perform.new.store
    c.in_ok-decision.decision c.in-Ok.staged.file c.requires.ready c.in-Ok.ensures.ready.limits_are (c.stage.ensures.told gt) (c.in-Ok.ensures.shows gt) (c.stage.ensures.moments gt)
    (c.in-Ok.ensures.content gt) c.in-Ok.ensures.digests ((c.in_ok-decision.ensures c.args.body.now).means (x1.files 3) whole) (c.perform.ensures.acts gt)
