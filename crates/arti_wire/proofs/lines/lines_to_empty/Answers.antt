use Rattle.std.proofs.Common.{◌≡◌, ◌+◌, ◌≤◌, length, sym, ap, ◌∙◌, arith, Option, None}
use Rattle.std.specs.Prelude.{option_map}
use Rattle.arti_model.specs.Requests.{lines_before_empty}
use Rattle.arti_wire.proofs.EmptyLines.{lines_behind, no_lines, lines_found, lines_more, behind_shorter}
use Rattle.arti_wire.proofs.lines.lines_to_empty.Goals as goal

pub returns-then-begins_line_end : goal.returns-then-begins_line_end
returns-then-begins_line_end c =
    let step = lines_behind c.loop-after.rest.now c.in-Some.after.now c.in-Some.ensures.some in
    lines_found c.loop-after.rest.now c.in-Some.after.now c.loop-after.lines _ step (sym c.if-begins_line_end.ensures) c.loop-after.invariant.0

pub loop-after-preserved : goal.loop-after-preserved
loop-after-preserved c =
    let behind = c.in-Some.ensures.some in
    let step = lines_behind c.loop-after.rest.now c.in-Some.after.now behind in
    (lines_more c.loop-after.rest.now c.in-Some.after.now c.loop-after.lines _ step (sym c.if-begins_line_end.ensures) c.loop-after.invariant.0, omega (arith, behind_shorter _ _ behind))

pub returns : goal.returns
returns c =
    let none = no_lines c.loop-after.rest.now c.in_default.ensures.none in
    sym (ap (option_map (λ n. c.loop-after.lines + n)) none) ∙ c.loop-after.invariant.0
