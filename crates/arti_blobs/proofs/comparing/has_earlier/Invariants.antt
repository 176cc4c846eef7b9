use Rattle.std.proofs.Common.{◌≡◌}
use Rattle.arti_rows.specs.Sizes.{contents_file}
use Rattle.arti_ground.specs.State.{OnlyReads}
use Rattle.arti_blobs.specs.Chains.{past}
use Rattle.arti_blobs.specs.Contents.{IsSame}
use Rattle.arti_blobs.proofs.Earlier.{IsBelow, NoneBelow}
use Rattle.arti_blobs.proofs.comparing.has_earlier.Given as goal

abbrev pub invariant-chain : goal.invariant-chain
invariant-chain g l = record {
  on : IsBelow l.index l.wanted.digests.sha256 l.at l.next;
  reads : g.G.Ground.tells → OnlyReads (g.G.Ground.state l.fn.outside) (g.G.Ground.state l.outside);
  disk_faults : g.G.Ground.disk_faults l.outside ≡ g.G.Ground.disk_faults l.fn.outside;
  tell_faults : g.G.Ground.tell_faults l.outside ≡ g.G.Ground.tell_faults l.fn.outside;
  none : g.G.Ground.tells → NoneBelow l.index (IsSame ((g.G.Ground.state l.fn.outside).files contents_file) l.wanted) l.at l.next;
}

abbrev pub decreases-chain : goal.decreases-chain
decreases-chain g l = past l.next
