use Rattle.std.proofs.Common.{◌≡◌, drop}
use Rattle.std.specs.Prelude.{map}
use Rattle.std.specs.List.{slice_split}
use Rattle.arti_model.specs.Targets.{each}
use Rattle.arti_model.specs.Asks.{build_text, is_comma}
use Rattle.arti_route.proofs.Steps.{with_read}
use Rattle.arti_route.proofs.queries.build_numbers.Given as goal

abbrev pub invariant-loop-number : goal.invariant-loop-number
invariant-loop-number l = with_read build_text l.listed (map (λ x. x.now) (drop l.number-index l.number-items)) ≡ each build_text (slice_split is_comma l.numbers)
