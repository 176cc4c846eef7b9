use Rattle.arti_aql_parse.specs.Ahead.{to_come}
use Rattle.arti_aql_parse.specs.Grammar.{ReadsTests}
use Rattle.arti_aql_parse.specs.Refusal.{RefusesTests}
use Rattle.arti_aql_parse.proofs.RowSteps.{Goes, size}
use Rattle.arti_aql_parse.proofs.elements.tests.Given as goal

abbrev pub invariant-row : goal.invariant-row
invariant-row l = Goes ReadsTests RefusesTests (to_come l.initial.parser) (to_come l.parser) l.tests.items

abbrev pub decreases-row : goal.decreases-row
decreases-row l = size (to_come l.parser)
