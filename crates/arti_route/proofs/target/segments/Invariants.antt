use Rattle.std.proofs.Common.{◌≡◌, drop}
use Rattle.std.specs.Prelude.{map}
use Rattle.arti_model.specs.Targets.{part_read, segments_read}
use Rattle.arti_route.proofs.Steps.{with_read}
use Rattle.arti_route.proofs.target.segments.Given as goal

abbrev pub invariant-loop-part : goal.invariant-loop-part
invariant-loop-part l = with_read part_read l.segments (map (λ x. x.now) (drop l.part-index l.part-items)) ≡ segments_read l.path
