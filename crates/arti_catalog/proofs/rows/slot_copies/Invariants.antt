use Rattle.std.proofs.Common.{◌≡◌, take}
use Rattle.std.specs.Prelude.{map}
use Rattle.arti_catalog.specs.Boxes.{opened}
use Rattle.arti_catalog.proofs.rows.slot_copies.Given as goal

abbrev pub invariant-loop-slot : goal.invariant-loop-slot
invariant-loop-slot l = map opened l.copies.items ≡ map opened (take l.slot-index l.slots)
