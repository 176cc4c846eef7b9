use Rattle.std.proofs.Common.{◌≡◌}
use Rattle.arti_wire.specs.declared.wire.Phase.TheVariants.{Between}
use Rattle.arti_disk_tests.proofs.wire.read_all.Given as goal

abbrev pub invariant-heads : goal.invariant-heads
invariant-heads l = l.wire.phase ≡ Between
