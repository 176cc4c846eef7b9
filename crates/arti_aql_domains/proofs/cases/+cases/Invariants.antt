use Rattle.std.proofs.Common.{◌≡◌, ◌≤◌, ◌*◌, ◌+◌, min, drop}
use Rattle.arti_query_model.specs.Cases.{product_of_cases, sum_of_cases}
use Rattle.arti_aql_domains.specs.Conditions.{conds_view}
use Rattle.arti_aql_domains.proofs.cases.+cases.Given as goal

abbrev pub invariant-product_of_cases-loop-part : goal.invariant-product_of_cases-loop-part
invariant-product_of_cases-loop-part l = record {
  few : l.product ≤ 4097;
  value : min 4097 (product_of_cases (conds_view l.parts)) ≡ min 4097 (l.product * product_of_cases (conds_view (drop l.part-index l.parts)));
}

abbrev pub invariant-sum_of_cases-loop-part : goal.invariant-sum_of_cases-loop-part
invariant-sum_of_cases-loop-part l = record {
  few : l.sum ≤ 4097;
  value : min 4097 (sum_of_cases (conds_view l.parts)) ≡ min 4097 (l.sum + sum_of_cases (conds_view (drop l.part-index l.parts)));
}
