use Rattle.std.proofs.Common.{sym}
use Rattle.arti_ids.specs.IdLaws.{at_gap}
use Rattle.arti_ids.proofs.ids.is_among.Goals as goal

pub returns-in-Err : goal.returns-in-Err
returns-in-Err c = sym (at_gap c.args.ids.now c.args.id c.requires c.in-Err.field-0 c.in-Err.ensures.position).2
