use Rattle.std.proofs.Common.{◌≡◌, drop}
use Rattle.arti_aql_domains.specs.Conditions.{conds_view}
use Rattle.arti_aql_domains.specs.Alone.{are_alone}
use Rattle.arti_aql_domains.proofs.alone.+alone.Given as goal

abbrev pub invariant-are_alone-loop-part : goal.invariant-are_alone-loop-part
invariant-are_alone-loop-part l = are_alone (conds_view l.parts) ≡ are_alone (conds_view (drop l.part-index l.parts))
