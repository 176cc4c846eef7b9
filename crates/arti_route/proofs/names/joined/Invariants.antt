use Rattle.std.proofs.Common.{◌≡◌, ◌∷◌, ◌++◌, drop}
use Rattle.std.specs.Prelude.{string_bytes}
use Rattle.std.specs.List.{flat_map, join_with_byte}
use Rattle.arti_route.proofs.names.joined.Given as goal

abbrev pub invariant-loop-segment : goal.invariant-loop-segment
invariant-loop-segment l = string_bytes l.whole ++ flat_map (λ s. 47 ∷ s) (drop l.segment-index l.others) ≡ join_with_byte 47 l.fn.segments
