use Rattle.std.proofs.Common.{◌≡◌, ◌+◌, ◌≤◌, length, take}
use Rattle.arti_tree.proofs.blocks.Blocks.copy.Given as goal

abbrev pub invariant-loop-place : goal.invariant-loop-place
invariant-loop-place l = record {
  items : l.copy.items ≡ take l.place l.self.items;
  room : length l.self.items ≤ l.copy.room + l.place;
}
