use Rattle.std.proofs.Common.{◌≡◌, drop}
use Rattle.std.specs.List.{list_all}
use Rattle.arti_query_model.specs.World.{in_question, property_meets}
use Rattle.arti_aql_domains.proofs.owned.all_meet.Given as goal

abbrev pub invariant-loop-property : goal.invariant-loop-property
invariant-loop-property l =
    list_all (property_meets l.test) (in_question l.test.key l.properties) ≡ list_all (property_meets l.test) (in_question l.test.key (drop l.property-index l.properties))
