use Rattle.std.proofs.Common.{◌≢◌, ◌∙◌, subst}
use Rattle.arti_aql_parse.specs.Grammar.{ReadsQuery}
use Rattle.arti_aql_parse.specs.Refusal.{RefusesQuery}
use Rattle.arti_aql_parse.specs.View.{view}
use Rattle.arti_aql_parse.specs.declared.fault.ReadFault.TheVariants.{Memory}
use Rattle.arti_aql_parse.proofs.OneReading.{query_one}
use Rattle.arti_aql_parse.proofs.ParseLaws.{memory_alone}
use Rattle.arti_aql_parse.proofs.reading.parse.Goals as goal

pub returns-in-Ok-clause-only : goal.returns-in-Ok-clause-only
returns-in-Ok-clause-only c = λ q s. query_one (subst (λ a. ReadsQuery a (view c.in-Ok.query)) c.new-parser.ensures c.in-Ok.ensures.read) s.reads

pub returns-in-Err-clause-only : goal.returns-in-Err-clause-only
returns-in-Err-clause-only c = λ q s. c.fault_of.ensures ∙ memory_alone c.in-Err.fault (subst (λ a. c.in-Err.fault ≢ Memory → RefusesQuery a c.in-Err.fault) c.new-parser.ensures c.in-Err.ensures.refused) s.reads
