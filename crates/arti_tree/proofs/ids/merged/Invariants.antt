use Rattle.std.proofs.Common.{◌≡◌, ◌++◌, ◌≤◌, length, drop}
use Rattle.arti_tree.specs.Shifts.{merge}
use Rattle.arti_tree.proofs.ids.merged.Given as goal

abbrev pub invariant-loop-id : goal.invariant-loop-id
invariant-loop-id l = record {
  next : l.next ≤ length l.more;
  is : l.all.items ++ merge (drop l.id-index l.ids) (drop l.next l.more) ≡ merge l.ids l.more;
}
