use Rattle.std.proofs.Common.{◌≡◌, ◌+◌, ◌-◌, ◌≤◌, length, drop}
use Rattle.arti_tree.specs.Shifts.{lead}
use Rattle.arti_tree.proofs.ids.past.Given as goal

abbrev pub invariant-ids : goal.invariant-ids
invariant-ids l = record {
  from : l.from ≤ l.place;
  within : l.place ≤ length l.ids;
  past : l.place + lead l.id (drop l.place l.ids) ≡ l.from + lead l.id (drop l.from l.ids);
}

abbrev pub decreases-ids : goal.decreases-ids
decreases-ids l = length l.ids - l.place
