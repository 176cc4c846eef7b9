use Rattle.arti_aql_parse.specs.Ahead.{to_come}
use Rattle.arti_aql_parse.specs.Grammar.{ReadsHead}
use Rattle.arti_aql_parse.specs.Refusal.{RefusesHead}
use Rattle.arti_aql_parse.proofs.RowSteps.{Goes, size}
use Rattle.arti_aql_parse.proofs.reading.head.Given as goal

abbrev pub invariant-row : goal.invariant-row
invariant-row l = Goes ReadsHead RefusesHead (to_come l.initial.parser) (to_come l.parser) l.names.items

abbrev pub decreases-row : goal.decreases-row
decreases-row l = size (to_come l.parser)
