use Rattle.std.proofs.Common.{◌≡◌, ◌+◌, drop}
use Rattle.arti_tree.specs.Pieces.{lists, over}
use Rattle.arti_tree.proofs.pieces.over_in.Given as goal

abbrev pub invariant-loop-block : goal.invariant-loop-block
invariant-loop-block l = l.over + over (drop l.block-index (lists l.blocks)) ≡ over (lists l.blocks)
