use Rattle.arti_aql_parse.specs.Ahead.{to_come}
use Rattle.arti_aql_parse.proofs.RowSteps.{size}
use Rattle.arti_aql_parse.proofs.SuffixRows.{SuffixesGo}
use Rattle.arti_aql_parse.proofs.suffixes.suffixes.Given as goal

abbrev pub invariant-row : goal.invariant-row
invariant-row l = SuffixesGo (to_come l.initial.parser) (to_come l.parser) l.given

abbrev pub decreases-row : goal.decreases-row
decreases-row l = size (to_come l.parser)
