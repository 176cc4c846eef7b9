use Rattle.std.proofs.Common.{◌≡◌, ◌+◌, ◌≤◌, ◌-◌, length, vec_len, vec_capacity}
use Rattle.std.specs.List.{All}
use Rattle.arti_tree.specs.Pieces.{IsSpare}
use Rattle.arti_tree.proofs.pieces.set_aside.Given as goal

abbrev pub invariant-spares : goal.invariant-spares
invariant-spares l = record {
  starts : l.starts.items ≡ l.fn.starts.items;
  blocks : l.blocks.items ≡ l.fn.blocks.items;
  aside : All IsSpare l.spare.items;
  more : length l.fn.spare.items ≤ length l.spare.items;
  starts_room : length l.starts.items + length l.spare.items ≤ vec_capacity l.starts;
  room : length l.blocks.items + length l.spare.items ≤ vec_capacity l.blocks;
}

abbrev pub decreases-spares : goal.decreases-spares
decreases-spares l = l.wanted - vec_len l.spare
