use Rattle.arti_props.proofs.Pairs.{found}
use Rattle.arti_props.proofs.values.is_found.Goals as goal

pub returns-in-Ok : goal.returns-in-Ok
returns-in-Ok c = λ e. found c.args.pairs.now c.args.pair.now c.in-Ok.field-0 c.in-Ok.ensures.bound c.in-Ok.ensures.ok
