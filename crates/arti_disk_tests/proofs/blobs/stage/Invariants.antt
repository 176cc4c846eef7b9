use Rattle.std.proofs.Common.{◌≡◌}
use Rattle.std.specs.Prelude.{IsSome}
use Rattle.arti_blobs.specs.Contents.{HoldsContents}
use Rattle.arti_disk_tests.proofs.blobs.stage.Given as goal

abbrev pub invariant-pieces : goal.invariant-pieces
invariant-pieces g l = record {
  begun : IsSome l.blobs.staging;
  kept : l.blobs.kept ≡ l.fn.blobs.kept;
  holds : g.G.Ground.tells → HoldsContents (g.G.Ground.state l.outside) l.blobs;
}
