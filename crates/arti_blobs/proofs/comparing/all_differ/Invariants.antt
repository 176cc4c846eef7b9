use Rattle.std.proofs.Common.{◌≡◌, ℕ, ◌<◌}
use Rattle.arti_rows.specs.Sizes.{contents_file}
use Rattle.arti_ground.specs.State.{OnlyReads}
use Rattle.arti_blobs.specs.Chains.{HasEarlier}
use Rattle.arti_blobs.proofs.comparing.all_differ.Given as goal

abbrev pub invariant-kept : goal.invariant-kept
invariant-kept g l = record {
  reads : g.G.Ground.tells → OnlyReads (g.G.Ground.state l.fn.outside) (g.G.Ground.state l.outside);
  disk_faults : g.G.Ground.disk_faults l.outside ≡ g.G.Ground.disk_faults l.fn.outside;
  tell_faults : g.G.Ground.tell_faults l.outside ≡ g.G.Ground.tell_faults l.fn.outside;
  none : g.G.Ground.tells → (at : ℕ) → at < l.at → HasEarlier ((g.G.Ground.state l.fn.outside).files contents_file) l.index at → ⊥;
}
