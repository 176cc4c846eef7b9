use Rattle.std.proofs.Common.{[]}
use Rattle.arti_ids.specs.IdLaws.{sorted_ids}
use Rattle.arti_props.proofs.values.list.Goals as goal

pub returns-in-None-clause-ascending : goal.returns-in-None-clause-ascending
returns-in-None-clause-ascending c = sorted_ids [] tt
