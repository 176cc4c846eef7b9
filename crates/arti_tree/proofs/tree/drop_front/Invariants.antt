use Rattle.std.proofs.Common.{◌≡◌, drop}
use Rattle.arti_tree.proofs.tree.drop_front.Given as goal

abbrev pub invariant-loop-i : goal.invariant-loop-i
invariant-loop-i l = l.keys.items ≡ drop l._i l.fn.keys.items
