use Rattle.std.proofs.Common.{◌≡◌, ◌≤◌, ◌<◌, ◌-◌}
use Rattle.arti_ground.specs.State.{OnlyReads}
use Rattle.arti_journal.specs.Journal.{bodies_of}
use Rattle.arti_journal.specs.Parts.{Shows}
use Rattle.arti_journal.proofs.Progress.{IsRead}
use Rattle.arti_journal.proofs.reading.read_records.Given as goal

abbrev pub invariant-records : goal.invariant-records
invariant-records g l = record {
  some : 16 ≤ l.place;
  within : l.place < l.size;
  file : l.window.file ≡ l.fn.window.file;
  shows : g.G.Ground.tells → Shows l.window ((g.G.Ground.state l.fn.outside).files l.fn.window.file);
  reads : g.G.Ground.tells → OnlyReads (g.G.Ground.state l.fn.outside) (g.G.Ground.state l.outside);
  disk_faults : g.G.Ground.disk_faults l.outside ≡ g.G.Ground.disk_faults l.fn.outside;
  tell_faults : g.G.Ground.tell_faults l.outside ≡ g.G.Ground.tell_faults l.fn.outside;
  read : g.G.Ground.tells → IsRead ((g.G.Ground.state l.fn.outside).files l.fn.window.file) (bodies_of l.bodies.items) l.place;
}

abbrev pub decreases-records : goal.decreases-records
decreases-records g l = l.size - l.place
