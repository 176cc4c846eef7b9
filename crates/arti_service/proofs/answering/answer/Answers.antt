use Rattle.arti_service.proofs.Doing.{step_acts}
use Rattle.arti_service.proofs.answering.answer.Goals as goal

pub returns-clause-acts : goal.returns-clause-acts
returns-clause-acts g c = λ gt.
    step_acts c.args.line c.has_method-alone.result (record { head = c.args.request.now; body = c.args.body.now }) c.args.moment c.in_ok-asked.asked c.answer_asked.result
    (g.G.Ground.state c.args.ground.now) (g.G.Ground.state c.answer_asked.new.ground) c.args.store.now c.answer_asked.new.store
    c.has_method-alone.ensures c.in_ok-asked.ensures.asks c.in_ok-asked.ensures.reads (c.answer_asked.ensures.acts gt)
