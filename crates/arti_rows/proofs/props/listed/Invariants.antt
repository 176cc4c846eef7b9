use Rattle.std.proofs.Common.{◌≡◌, ◌++◌}
use Rattle.arti_rows.proofs.props.listed.Given as goal

abbrev pub invariant-loop-key : goal.invariant-loop-key
invariant-loop-key g l = l.keys.items ++ l.key-iterator ≡ l.fn.set.keys
