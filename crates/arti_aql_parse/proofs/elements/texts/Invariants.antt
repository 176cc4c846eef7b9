use Rattle.arti_aql_parse.specs.Ahead.{to_come}
use Rattle.arti_aql_parse.specs.Grammar.{ReadsTexts}
use Rattle.arti_aql_parse.specs.Refusal.{RefusesTexts}
use Rattle.arti_aql_parse.proofs.RowSteps.{Goes, size}
use Rattle.arti_aql_parse.proofs.elements.texts.Given as goal

abbrev pub invariant-row : goal.invariant-row
invariant-row l = Goes (ReadsTexts l.close) (RefusesTexts l.close) (to_come l.initial.parser) (to_come l.parser) l.texts.items

abbrev pub decreases-row : goal.decreases-row
decreases-row l = size (to_come l.parser)
