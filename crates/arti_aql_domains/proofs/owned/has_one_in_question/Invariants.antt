use Rattle.std.proofs.Common.{◌≡◌, length, ltb, drop}
use Rattle.arti_query_model.specs.World.{in_question}
use Rattle.arti_aql_domains.proofs.owned.has_one_in_question.Given as goal

abbrev pub invariant-loop-property : goal.invariant-loop-property
invariant-loop-property l = ltb 0 (length (in_question l.key l.properties)) ≡ ltb 0 (length (in_question l.key (drop l.property-index l.properties)))
