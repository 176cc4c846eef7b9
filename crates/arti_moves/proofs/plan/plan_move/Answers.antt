use Rattle.arti_catalog.specs.Held.{items_in}
use Rattle.arti_moves.proofs.Outcomes.{accepted_so}
use Rattle.arti_moves.proofs.plan.plan_move.Goals as goal

pub returns-clause-accepted : goal.returns-clause-accepted
returns-clause-accepted c =
    accepted_so c.args.catalog.now.limits (items_in c.args.catalog.now) c.args.moment c.args.user.now c.args.ask.now c.plan_of.result c.plan_of.ensures.plan
