use Rattle.std.proofs.Common.{◌≡◌, ◌++◌}
use Rattle.arti_catalog.proofs.pairs.listed.Given as goal

abbrev pub invariant-loop-pair : goal.invariant-loop-pair
invariant-loop-pair l = l.listed.items ++ l.pair-iterator ≡ l.fn.pairs.keys
