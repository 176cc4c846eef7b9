use Rattle.std.proofs.Common.{◌≡◌, drop}
use Rattle.std.specs.List.{list_any}
use Rattle.arti_route.proofs.Naming.{has_slash}
use Rattle.arti_route.proofs.names.some_has_slash.Given as goal

abbrev pub invariant-loop-segment : goal.invariant-loop-segment
invariant-loop-segment l = list_any has_slash (drop l.segment-index l.segments) ≡ list_any has_slash l.segments
