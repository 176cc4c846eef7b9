use Rattle.std.proofs.Common.{◌≡◌, ◌≤◌, ◌-◌, take, drop}
use Rattle.arti_rows.specs.Sizes.{contents_file}
use Rattle.arti_ground.specs.State.{OnlyReads}
use Rattle.arti_blobs.proofs.comparing.same_bytes.Given as goal

abbrev pub invariant-blocks-2 : goal.invariant-blocks-2
invariant-blocks-2 g l =
    let bytes = (g.G.Ground.state l.fn.outside).files contents_file in
    record {
      within : l.done ≤ l.len;
      reads : g.G.Ground.tells → OnlyReads (g.G.Ground.state l.fn.outside) (g.G.Ground.state l.outside);
      disk_faults : g.G.Ground.disk_faults l.outside ≡ g.G.Ground.disk_faults l.fn.outside;
      tell_faults : g.G.Ground.tell_faults l.outside ≡ g.G.Ground.tell_faults l.fn.outside;
      same : g.G.Ground.tells → take l.done (drop l.first bytes) ≡ take l.done (drop l.second bytes);
    }

abbrev pub decreases-blocks-2 : goal.decreases-blocks-2
decreases-blocks-2 g l = l.len - l.done
