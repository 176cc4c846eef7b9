use Rattle.std.proofs.Common.{◌≡◌, ◌==◌, ◌+◌, ◌≤◌, drop}
use Rattle.std.specs.List.{count_by}
use Rattle.arti_tree.proofs.keys.slashes_in.Given as goal

abbrev pub invariant-loop-b : goal.invariant-loop-b
invariant-loop-b l = record {
  sum : l.count + count_by (λ b. b == 47) (drop l.b-index l.text) ≡ count_by (λ b. b == 47) l.text;
  few : l.count ≤ l.b-index;
}
