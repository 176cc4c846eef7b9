use Rattle.std.proofs.Common.{length}
use Rattle.arti_wire.proofs.judge.judge.Goals as goal

pub returns-in-None-clause-within : goal.returns-in-None-clause-within
returns-in-None-clause-within c = c.refuse.ensures.within c.args.content (length c.args.bytes.now)
