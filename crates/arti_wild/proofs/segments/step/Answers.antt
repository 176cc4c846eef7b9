use Rattle.std.proofs.Common.{sym, ◌∙◌}
use Rattle.arti_wild.specs.Wild.{wild_text}
use Rattle.arti_wild.specs.Ant.{is_double_star, segments_left, pattern_left}
use Rattle.arti_wild.proofs.FitsLemmas.{run_ends, run_over, run_stops, run_goes}
use Rattle.arti_wild.proofs.segments.step.Goals as goal

pub returns-in-None-clause-run : goal.returns-in-None-clause-run
returns-in-None-clause-run c = run_ends is_double_star wild_text (pattern_left c.args.more_pattern c.args.pattern.now) (segments_left c.args.more_path c.args.path.now) c.in-None.ensures

pub returns-in-None-next_segment-clause-run : goal.returns-in-None-next_segment-clause-run
returns-in-None-next_segment-clause-run c = run_over is_double_star wild_text (pattern_left c.args.more_pattern c.args.pattern.now) (segments_left c.args.more_path c.args.path.now) c.in-None-next_segment.ensures

pub returns-then-takes-clause-run : goal.returns-then-takes-clause-run
returns-then-takes-clause-run c =
    run_goes is_double_star wild_text c.in-Some.first.now c.in-Some-next_segment.segment.now (pattern_left c.args.more_pattern c.args.pattern.now) (pattern_left c.in-Some.later_pattern c.in-Some.pattern_rest.now) (segments_left c.args.more_path c.args.path.now) (segments_left c.in-Some-next_segment.later_path c.in-Some-next_segment.path_rest.now) c.in-Some.ensures c.in-Some-next_segment.ensures (sym c.takes.ensures ∙ c.if-takes.true)

pub returns-else-takes-clause-run : goal.returns-else-takes-clause-run
returns-else-takes-clause-run c =
    run_stops is_double_star wild_text c.in-Some.first.now c.in-Some-next_segment.segment.now (pattern_left c.args.more_pattern c.args.pattern.now) (pattern_left c.in-Some.later_pattern c.in-Some.pattern_rest.now) (segments_left c.args.more_path c.args.path.now) (segments_left c.in-Some-next_segment.later_path c.in-Some-next_segment.path_rest.now) c.in-Some.ensures c.in-Some-next_segment.ensures (sym c.takes.ensures ∙ c.if-takes.false)
