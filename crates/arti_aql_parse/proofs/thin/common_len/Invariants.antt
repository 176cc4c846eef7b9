use Rattle.std.proofs.Common.{◌≡◌, ◌-◌, ◌<◌, ◌≤◌, ℕ, length, get_or}
use Rattle.arti_aql_parse.proofs.thin.common_len.Given as goal

abbrev pub invariant-loop-len : goal.invariant-loop-len
invariant-loop-len l = record {
  in_a : l.len ≤ length l.a;
  in_b : l.len ≤ length l.b;
  same : (i : ℕ) → i < l.len → get_or l.a i 0 ≡ get_or l.b i 0;
}

abbrev pub decreases-loop-len : goal.decreases-loop-len
decreases-loop-len l = length l.a - l.len
