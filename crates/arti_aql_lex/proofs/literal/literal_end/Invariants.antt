use Rattle.std.proofs.Common.{◌≡◌, ◌+◌, ◌-◌, ◌<◌, ◌≤◌, length, drop}
use Rattle.arti_aql_lex.specs.Literal.{literal_end}
use Rattle.arti_aql_lex.proofs.literal.literal_end.Given as goal

abbrev pub invariant-loop-at : goal.invariant-loop-at
invariant-loop-at l = record {
  some : 0 < l.at;
  within : l.at ≤ length l.rest;
  same : literal_end l.opening (l.opening + l.at) 0 (drop l.at l.rest) ≡ literal_end l.opening (l.opening + 1) 0 (drop 1 l.rest);
}

abbrev pub decreases-loop-at : goal.decreases-loop-at
decreases-loop-at l = length l.rest - l.at
