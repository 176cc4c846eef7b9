use Rattle.std.proofs.Common.{take}
use Rattle.arti_journal.specs.Journal.{bodies_of}
use Rattle.arti_store.specs.Items.{items_of}
use Rattle.arti_store.specs.Replays.{Replays}
use Rattle.arti_store.proofs.recovery.replay.Given as goal

abbrev pub invariant-bodies : goal.invariant-bodies
invariant-bodies l = Replays l.limits (bodies_of (take l.body-index l.bodies)) (items_of l.rows) l.files.items
