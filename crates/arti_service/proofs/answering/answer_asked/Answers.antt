use Rattle.arti_model.specs.Decide.{file_of_body}
use Rattle.arti_service.specs.declared.ask.Asked.TheVariants as asked
use Rattle.arti_service.proofs.Doing.{asked_acts}
use Rattle.arti_service.proofs.answering.answer_asked.Goals as goal

pub returns-in-Deploy-clause-acts : goal.returns-in-Deploy-clause-acts
returns-in-Deploy-clause-acts g c = λ gt.
    asked_acts c.args.line c.args.alone c.args.body.now c.args.moment c.answer_deploy.result (g.G.Ground.state c.args.ground.now) (g.G.Ground.state c.answer_deploy.new.ground) c.args.store.now c.answer_deploy.new.store
    c.args.asked (asked.Deploy c.in-Deploy.key c.in-Deploy.wanted) c.in-Deploy.is (c.answer_deploy.ensures.acts gt)

pub returns-in-Query-clause-acts : goal.returns-in-Query-clause-acts
returns-in-Query-clause-acts g c = λ gt.
    asked_acts c.args.line c.args.alone c.args.body.now c.args.moment c.answer_query.result (g.G.Ground.state c.args.ground.now) (g.G.Ground.state c.answer_query.new.ground) c.args.store.now c.answer_query.new.store
    c.args.asked asked.Query c.in-Query.is (c.answer_query.ensures.acts gt (file_of_body c.args.body.now) c.args.moment)

pub returns-in-Refused-clause-acts : goal.returns-in-Refused-clause-acts
returns-in-Refused-clause-acts g c = λ gt.
    asked_acts c.args.line c.args.alone c.args.body.now c.args.moment c.answer_head.result (g.G.Ground.state c.args.ground.now) (g.G.Ground.state c.answer_head.new.ground) c.args.store.now c.answer_head.new.store
    c.args.asked (asked.Refused c.in-Refused.why) c.in-Refused.is (c.answer_head.ensures.acts gt c.args.body.now (file_of_body c.args.body.now))

pub returns-in-DeployFound-clause-acts : goal.returns-in-DeployFound-clause-acts
returns-in-DeployFound-clause-acts g c = λ gt.
    asked_acts c.args.line c.args.alone c.args.body.now c.args.moment c.answer_head-in-DeployFound.result (g.G.Ground.state c.args.ground.now) (g.G.Ground.state c.answer_head-in-DeployFound.new.ground) c.args.store.now c.answer_head-in-DeployFound.new.store
    c.args.asked (asked.DeployFound c.in-DeployFound.key c.in-DeployFound.wanted) c.in-DeployFound.is (c.answer_head-in-DeployFound.ensures.acts gt c.args.body.now (file_of_body c.args.body.now))

pub returns-in-Fetch-clause-acts : goal.returns-in-Fetch-clause-acts
returns-in-Fetch-clause-acts g c = λ gt.
    asked_acts c.args.line c.args.alone c.args.body.now c.args.moment c.answer_head-in-Fetch.result (g.G.Ground.state c.args.ground.now) (g.G.Ground.state c.answer_head-in-Fetch.new.ground) c.args.store.now c.answer_head-in-Fetch.new.store
    c.args.asked (asked.Fetch c.in-Fetch.key) c.in-Fetch.is (c.answer_head-in-Fetch.ensures.acts gt c.args.body.now (file_of_body c.args.body.now))
