use Rattle.std.proofs.Common.{rules, sym, ◌∙◌}
use Rattle.arti_wild.specs.Wild.{wild_text}
use Rattle.arti_wild.specs.Ant.{is_double_star, segments_left, pattern_left}
use Rattle.arti_wild.proofs.FitsLemmas.{run_no_longer, run_stuck, found, nowhere, later}
use Rattle.arti_wild.proofs.segments.find.Goals as goal

pub returns-then-has_landed : goal.returns-then-has_landed
returns-then-has_landed c = record {
  found = found is_double_star wild_text (pattern_left c.args.more_pattern c.args.pattern.now) (segments_left c.args.more_path c.args.path.now) (segments_left c.rests.more_path c.rests.path.now) _ c.rests.invariant.0 c.run-left.ensures (sym c.has_landed.ensures ∙ c.if-has_landed.true);
  stuck = run_stuck is_double_star wild_text (pattern_left c.args.more_pattern c.args.pattern.now) (segments_left c.rests.more_path c.rests.path.now) _ c.run-left.ensures;
  no_longer = run_no_longer is_double_star wild_text (pattern_left c.args.more_pattern c.args.pattern.now) (segments_left c.rests.more_path c.rests.path.now) _ c.run-left.ensures;
}

pub returns-in-None-clause-found : goal.returns-in-None-clause-found
returns-in-None-clause-found c =
    nowhere is_double_star wild_text (pattern_left c.args.more_pattern c.args.pattern.now) (segments_left c.args.more_path c.args.path.now) (segments_left c.rests.more_path c.rests.path.now) _ c.rests.invariant.0 c.run-left.ensures (sym c.has_landed.ensures ∙ c.if-has_landed.false) c.in-None.ensures

pub rests-preserved : goal.rests-preserved
rests-preserved c = (
  later is_double_star wild_text c.in-Some.field-0-0.now (pattern_left c.args.more_pattern c.args.pattern.now) (segments_left c.args.more_path c.args.path.now) (segments_left c.rests.more_path c.rests.path.now) (segments_left c.in-Some.later_path c.in-Some.rest.now) _ c.rests.invariant.0 c.run-left.ensures (sym c.has_landed.ensures ∙ c.if-has_landed.false) c.in-Some.ensures,
  search rules,
  search rules,
)
