use Rattle.std.specs.Str.{chars}
use Rattle.std.proofs.Common.{sym, ◌∙◌}
use Rattle.arti_wild.specs.Wild.{is_star, stands_for}
use Rattle.arti_wild.proofs.FitsLemmas.{run_stuck, run_fits}
use Rattle.arti_wild.proofs.matching.wild.Goals as goal

pub after_run-requires : goal.after_run-requires
after_run-requires c = run_stuck is_star stands_for (chars c.args.pattern.now) (chars c.args.text.now) _ c.run.ensures

pub returns : goal.returns
returns c = c.after_run.ensures ∙ sym (run_fits is_star stands_for (chars c.args.pattern.now) (chars c.args.text.now) _ c.run.ensures)
