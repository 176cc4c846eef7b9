use Rattle.std.proofs.Common.{◌≡◌, ℕ, ◌<◌, length, slice_index}
use Rattle.arti_tree.specs.Pieces.{lists, offset}
use Rattle.arti_tree.proofs.pieces.restart.Given as goal

abbrev pub invariant-loop-i : goal.invariant-loop-i
invariant-loop-i l = record {
  long : length l.starts ≡ length l.blocks;
  next : l.next ≡ offset (lists l.blocks) l.i;
  each : (k : ℕ) → k < l.i → slice_index l.starts k ≡ offset (lists l.blocks) k;
}
