use Rattle.std.proofs.Common.{◌≡◌, drop}
use Rattle.arti_query_model.specs.Cases.{some_joined}
use Rattle.arti_aql_domains.specs.Conditions.{conds_view}
use Rattle.arti_aql_domains.proofs.cases.+joined.Given as goal

abbrev pub invariant-some_joined-loop-part : goal.invariant-some_joined-loop-part
invariant-some_joined-loop-part l = some_joined (conds_view l.parts) ≡ some_joined (conds_view (drop l.part-index l.parts))
