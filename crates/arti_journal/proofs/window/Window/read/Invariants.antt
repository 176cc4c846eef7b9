use Rattle.std.proofs.Common.{◌≡◌, ◌≤◌, ◌-◌, length, take, drop}
use Rattle.arti_ground.specs.State.{OnlyReads}
use Rattle.arti_journal.specs.Parts.{Shows}
use Rattle.arti_journal.proofs.window.Window.read.Given as goal

abbrev pub invariant-pieces : goal.invariant-pieces
invariant-pieces g l =
    let bytes = (g.G.Ground.state l.fn.outside).files l.fn.self.file in
    record {
      within : l.done ≤ length l.out;
      file : l.self.file ≡ l.fn.self.file;
      shows : g.G.Ground.tells → Shows l.self bytes;
      reads : g.G.Ground.tells → OnlyReads (g.G.Ground.state l.fn.outside) (g.G.Ground.state l.outside);
      disk_faults : g.G.Ground.disk_faults l.outside ≡ g.G.Ground.disk_faults l.fn.outside;
      tell_faults : g.G.Ground.tell_faults l.outside ≡ g.G.Ground.tell_faults l.fn.outside;
      inside : g.G.Ground.tells → l.done ≤ length bytes - l.at;
      front : g.G.Ground.tells → take l.done l.out ≡ take l.done (drop l.at bytes);
    }

abbrev pub decreases-pieces : goal.decreases-pieces
decreases-pieces g l = length l.out - l.done
