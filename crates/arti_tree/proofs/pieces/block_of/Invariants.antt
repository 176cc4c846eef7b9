use Rattle.std.proofs.Common.{◌-◌, ◌<◌, ◌≤◌, length, slice_index}
use Rattle.arti_tree.proofs.pieces.block_of.Given as goal

abbrev pub invariant-halves : goal.invariant-halves
invariant-halves l = record {
  range : l.low < l.high;
  within : l.high ≤ length l.starts;
  start : slice_index l.starts l.low ≤ l.place;
  end : l.high < length l.starts → l.place < slice_index l.starts l.high;
}

abbrev pub decreases-halves : goal.decreases-halves
decreases-halves l = l.high - l.low
