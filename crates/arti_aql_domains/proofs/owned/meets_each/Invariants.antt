use Rattle.std.proofs.Common.{◌≡◌, Bool, ◌&&◌, drop}
use Rattle.std.specs.List.{list_all}
use Rattle.arti_rows.specs.declared.rows.Property.{Property}
use Rattle.arti_query_model.specs.declared.tests.PropTest.{PropTest}
use Rattle.arti_query_model.specs.World.{is_in_question, property_meets}
use Rattle.arti_aql_domains.proofs.owned.meets_each.Given as goal

abbrev says : Property → PropTest → Bool
says p t = is_in_question t.key p && property_meets t p

abbrev pub invariant-loop-test : goal.invariant-loop-test
invariant-loop-test l = list_all (says l.property) l.tests ≡ list_all (says l.property) (drop l.test-index l.tests)
