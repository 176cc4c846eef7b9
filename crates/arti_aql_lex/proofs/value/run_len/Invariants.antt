use Rattle.std.proofs.Common.{◌≡◌, ◌+◌, ◌-◌, ◌≤◌, length, drop}
use Rattle.std.specs.List.{prefix_len}
use Rattle.arti_aql_lex.specs.Literal.{is_plain}
use Rattle.arti_aql_lex.proofs.value.run_len.Given as goal

abbrev pub invariant-loop-len : goal.invariant-loop-len
invariant-loop-len l = record {
  within : l.len ≤ length l.rest;
  same : prefix_len is_plain l.rest ≡ l.len + prefix_len is_plain (drop l.len l.rest);
}

abbrev pub decreases-loop-len : goal.decreases-loop-len
decreases-loop-len l = length l.rest - l.len
