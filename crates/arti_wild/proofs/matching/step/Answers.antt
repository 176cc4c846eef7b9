use Rattle.std.specs.Str.{chars}
use Rattle.std.proofs.Common.{sym, ◌∙◌}
use Rattle.arti_wild.specs.Wild.{is_star, stands_for}
use Rattle.arti_wild.proofs.FitsLemmas.{run_ends, run_over, run_stops, run_goes}
use Rattle.arti_wild.proofs.matching.step.Goals as goal

pub returns-in-None-clause-run : goal.returns-in-None-clause-run
returns-in-None-clause-run c = run_ends is_star stands_for (chars c.args.pattern.now) (chars c.args.text.now) c.in-None.ensures

pub returns-in-None-first-clause-run : goal.returns-in-None-first-clause-run
returns-in-None-first-clause-run c = run_over is_star stands_for (chars c.args.pattern.now) (chars c.args.text.now) c.in-None-first.ensures

pub returns-then-takes-clause-run : goal.returns-then-takes-clause-run
returns-then-takes-clause-run c =
    run_goes is_star stands_for c.in-Some.p c.in-Some-first.c (chars c.args.pattern.now) (chars c.in-Some.more_pattern.now) (chars c.args.text.now) (chars c.in-Some-first.more_text.now) c.in-Some.ensures c.in-Some-first.ensures (sym c.takes.ensures ∙ c.if-takes.true)

pub returns-else-takes-clause-run : goal.returns-else-takes-clause-run
returns-else-takes-clause-run c =
    run_stops is_star stands_for c.in-Some.p c.in-Some-first.c (chars c.args.pattern.now) (chars c.in-Some.more_pattern.now) (chars c.args.text.now) (chars c.in-Some-first.more_text.now) c.in-Some.ensures c.in-Some-first.ensures (sym c.takes.ensures ∙ c.if-takes.false)
