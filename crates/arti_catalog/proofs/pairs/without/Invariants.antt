use Rattle.std.proofs.Common.{◌≡◌, take}
use Rattle.arti_model.specs.Edits.{props_dropped}
use Rattle.arti_catalog.proofs.pairs.without.Given as goal

abbrev pub invariant-loop-pair : goal.invariant-loop-pair
invariant-loop-pair l = l.left.items ≡ props_dropped l.keys (take l.pair-index l.props)
