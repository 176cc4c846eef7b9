use Rattle.std.proofs.Common.{◌≤◌}
use Rattle.arti_tree_tests.proofs.tree.rename.Given as goal

abbrev pub invariant-loop-row : goal.invariant-loop-row
invariant-loop-row l = l.moved ≤ l.row-index
