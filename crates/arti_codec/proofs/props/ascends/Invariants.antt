use Rattle.std.proofs.Common.{◌≡◌, length}
use Rattle.arti_codec.specs.Rules.{ascends}
use Rattle.arti_codec.proofs.props.ascends.Given as goal

abbrev pub invariant-loop-rest : goal.invariant-loop-rest
invariant-loop-rest g l = ascends g.T.Ord.cmp l.items ≡ ascends g.T.Ord.cmp l.rest

abbrev pub decreases-loop-rest : goal.decreases-loop-rest
decreases-loop-rest g l = length l.rest
