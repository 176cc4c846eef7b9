use Rattle.std.proofs.Common.{◌≡◌, drop}
use Rattle.arti_query_model.specs.Criteria.{all_true, one_true}
use Rattle.arti_aql_domains.specs.Conditions.{conds_view}
use Rattle.arti_aql_domains.specs.Alone.{tested, this_row}
use Rattle.arti_aql_domains.proofs.alone.+holds.Given as goal

abbrev pub invariant-all_hold-loop-part : goal.invariant-all_hold-loop-part
invariant-all_hold-loop-part l = all_true tested (this_row l.row) (conds_view l.parts) ≡ all_true tested (this_row l.row) (conds_view (drop l.part-index l.parts))

abbrev pub invariant-one_holds-loop-part : goal.invariant-one_holds-loop-part
invariant-one_holds-loop-part l = one_true tested (this_row l.row) (conds_view l.parts) ≡ one_true tested (this_row l.row) (conds_view (drop l.part-index l.parts))
