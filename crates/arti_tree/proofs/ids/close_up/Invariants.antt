use Rattle.std.proofs.Common.{◌≡◌, ◌++◌, ◌≤◌, length, take, drop}
use Rattle.arti_tree.specs.Shifts.{left_by}
use Rattle.arti_tree.proofs.ids.close_up.Given as goal

abbrev pub invariant-loop-i : goal.invariant-loop-i
invariant-loop-i l = record {
  long : length l.ids ≡ length l.fn.ids;
  kept : l.kept ≤ l.i;
  next : l.next ≤ length l.others;
  rest : drop l.i l.ids ≡ drop l.i l.fn.ids;
  is : take l.kept l.ids ++ left_by (drop l.next l.others) (drop l.i l.fn.ids) ≡ left_by l.others l.fn.ids;
}
