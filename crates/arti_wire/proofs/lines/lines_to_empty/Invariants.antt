use Rattle.std.proofs.Common.{◌≡◌, ◌+◌, ◌≤◌, length}
use Rattle.std.specs.Prelude.{option_map}
use Rattle.arti_model.specs.Requests.{lines_before_empty}
use Rattle.arti_wire.proofs.lines.lines_to_empty.Given as goal

abbrev pub invariant-loop-after : goal.invariant-loop-after
invariant-loop-after l =
    (option_map (λ n. l.lines + n) (lines_before_empty l.rest) ≡ lines_before_empty l.bytes)
    × (l.lines + length l.rest ≤ length l.bytes)

abbrev pub decreases-loop-after : goal.decreases-loop-after
decreases-loop-after l = length l.rest
