use Rattle.std.proofs.Common.{◌≡◌}
use Rattle.arti_targets.proofs.target.decode.Given as goal

abbrev pub invariant-loop-c : goal.invariant-loop-c
invariant-loop-c l = l.decoded.items ≡ l.yielded
