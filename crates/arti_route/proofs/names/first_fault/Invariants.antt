use Rattle.std.proofs.Common.{◌≡◌, drop}
use Rattle.arti_rows.specs.Names.{first_fault}
use Rattle.arti_route.proofs.names.first_fault.Given as goal

abbrev pub invariant-loop-segment : goal.invariant-loop-segment
invariant-loop-segment l = first_fault (drop l.segment-index l.segments) ≡ first_fault l.segments
