use Rattle.arti_wire.specs.Framing.{IsInBody}
use Rattle.arti_disk_tests.proofs.wire.read_body.Given as goal

abbrev pub invariant-pieces : goal.invariant-pieces
invariant-pieces l = IsInBody l.wire.phase
