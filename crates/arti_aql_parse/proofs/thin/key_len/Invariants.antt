use Rattle.std.proofs.Common.{◌≡◌, ◌-◌, ◌<◌, ◌≤◌, ℕ, true, length, get_or}
use Rattle.arti_aql_parse.specs.Thin.{is_key_byte}
use Rattle.arti_aql_parse.proofs.thin.key_len.Given as goal

abbrev pub invariant-loop-len : goal.invariant-loop-len
invariant-loop-len l = record {
  within : l.len ≤ length l.rest;
  few : l.len ≤ 64;
  each : (i : ℕ) → i < l.len → is_key_byte (get_or l.rest i 0) ≡ true;
}

abbrev pub decreases-loop-len : goal.decreases-loop-len
decreases-loop-len l = length l.rest - l.len
