use Rattle.std.proofs.Common.{sym, ◌∙◌, true}
use Rattle.arti_wild.specs.Wild.{wild_text}
use Rattle.arti_wild.specs.Ant.{is_double_star, segments_left, pattern_left}
use Rattle.arti_wild.proofs.FitsLemmas.{run_stuck, run_fits}
use Rattle.arti_wild.proofs.SegmentLemmas.{nonempty}
use Rattle.arti_wild.proofs.segments.fits.Goals as goal

pub after_run-requires : goal.after_run-requires
after_run-requires c = run_stuck is_double_star wild_text (pattern_left true c.args.pattern.now) (segments_left true c.args.path.now) _ c.run-more_pattern.ensures

pub returns : goal.returns
returns c =
    c.after_run.ensures ∙ sym (run_fits is_double_star wild_text (pattern_left true c.args.pattern.now) (segments_left true c.args.path.now) _ c.run-more_pattern.ensures)
    ∙ sym (nonempty c.args.pattern.now c.args.path.now (sym c.is_empty.ensures ∙ c.if-is_empty.false))
