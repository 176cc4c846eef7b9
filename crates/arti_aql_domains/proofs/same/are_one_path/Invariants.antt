use Rattle.std.proofs.Common.{◌≡◌, length, drop}
use Rattle.std.specs.Cmp.Lexicographic.{pointwise}
use Rattle.arti_query_model.specs.Typing.{same_rel}
use Rattle.arti_aql_domains.proofs.same.are_one_path.Given as goal

abbrev pub invariant-loop-i : goal.invariant-loop-i
invariant-loop-i l = (length l.a ≡ length l.b) × (pointwise same_rel l.a l.b ≡ pointwise same_rel (drop l.i l.a) (drop l.i l.b))
