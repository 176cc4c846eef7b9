use Rattle.std.proofs.Common.{◌≡◌, ◌<◌, ◌≤◌, ◌-◌, ◌++◌, length, take}
use Rattle.arti_ground.specs.State.{Passes, LeavesDisk}
use Rattle.arti_blobs.specs.Contents.{content}
use Rattle.arti_store.specs.Store.{HoldsStore}
use Rattle.arti_service.specs.Moments.{Telling}
use Rattle.arti_service.proofs.carrying.tell_content.Given as goal

abbrev pub invariant-blocks-2 : goal.invariant-blocks-2
invariant-blocks-2 g l =
    let state = g.G.Ground.state in
    record {
      room : 0 < length l.buf;
      within : l.at ≤ l.file.len;
      store : l.store ≡ l.fn.store;
      holds : g.G.Ground.tells → HoldsStore (state l.ground) l.store;
      told : g.G.Ground.tells → (state l.ground).told l.line ≡ (state l.fn.ground).told l.line ++ take l.at (content ((state l.fn.ground).files 3) l.file);
      disk : g.G.Ground.tells → LeavesDisk (state l.fn.ground) (state l.ground);
      time : g.G.Ground.tells → Passes (state l.fn.ground) (state l.ground) (Telling (state l.fn.ground) l.line (content ((state l.fn.ground).files 3) l.file));
      tell_faults : g.G.Ground.tell_faults l.ground ≡ g.G.Ground.tell_faults l.fn.ground;
      disk_faults : g.G.Ground.disk_faults l.ground ≡ g.G.Ground.disk_faults l.fn.ground;
    }

abbrev pub decreases-blocks-2 : goal.decreases-blocks-2
decreases-blocks-2 g l = l.file.len - l.at
