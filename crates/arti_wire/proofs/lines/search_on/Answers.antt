use Rattle.std.proofs.Common.{◌≡◌, ◌-◌, ◌≤◌, length, drop, sym, ap, subst, ◌∙◌, arith}
use Rattle.arti_wire.specs.Lines.{SameSearch}
use Rattle.arti_wire.proofs.EmptyLines.{search_found, search_open, search_open_on, search_other, search_place, search_end, search_end_on, behind_shorter}
use Rattle.arti_wire.proofs.lines.search_on.Goals as goal

pub returns-in-EmptyLine-clause-found : goal.returns-in-EmptyLine-clause-found
returns-in-EmptyLine-clause-found c =
    search_found (drop c.args.from c.args.bytes.now) c.loop-after.rest.now c.in-Some.after.now c.loop-after.invariant.2 c.in-Some.ensures.some c.in-EmptyLine.ensures

pub returns-in-Open-clause-absent : goal.returns-in-Open-clause-absent
returns-in-Open-clause-absent c =
    search_open (drop c.args.from c.args.bytes.now) c.loop-after.rest.now c.in-Some.after.now c.loop-after.invariant.2 c.in-Some.ensures.some c.in-Open.ensures

pub returns-in-Open-clause-on : goal.returns-in-Open-clause-on
returns-in-Open-clause-on c =
    search_open_on (drop c.args.from c.args.bytes.now) c.args.bytes.now c.loop-after.rest.now c.in-Some.after.now c.loop-after.invariant.0 c.loop-after.invariant.1 c.loop-after.invariant.2 c.in-Some.ensures.some

pub loop-after-preserved : goal.loop-after-preserved
loop-after-preserved c =
    let behind = c.in-Some.ensures.some in (
      search_place c.args.bytes.now c.loop-after.rest.now c.in-Some.after.now c.loop-after.invariant.0 c.loop-after.invariant.1 behind,
      omega (arith, behind_shorter _ _ behind, c.loop-after.invariant.1),
      search_other (drop c.args.from c.args.bytes.now) c.loop-after.rest.now c.in-Some.after.now c.loop-after.invariant.2 behind c.in-Other.ensures,
    )

pub returns-clause-absent : goal.returns-clause-absent
returns-clause-absent c = search_end (drop c.args.from c.args.bytes.now) c.loop-after.rest.now c.loop-after.invariant.2 c.in_default.ensures.none

pub returns-clause-on : goal.returns-clause-on
returns-clause-on c =
    search_end_on (drop c.args.from c.args.bytes.now) c.loop-after.rest.now c.args.bytes.now c.loop-after.invariant.2 c.in_default.ensures.none
