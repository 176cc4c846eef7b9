use Rattle.std.proofs.Common.{◌≡◌, ◌≤◌, ◌+◌, length, drop}
use Rattle.arti_rows.specs.Key.{fronts}
use Rattle.arti_aql_domains.proofs.held.slashes.Given as goal

abbrev pub invariant-loop-byte : goal.invariant-loop-byte
invariant-loop-byte l = record {
  few : l.count ≤ l.byte-index;
  value : length (fronts l.text) ≡ l.count + length (fronts (drop l.byte-index l.text));
}
