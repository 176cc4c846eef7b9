use Rattle.std.proofs.Common.{◌∙◌}
use Rattle.arti_wild.proofs.PartLemmas.{pattern_none, pattern_some}
use Rattle.arti_wild.proofs.pattern.read_pattern.Goals as goal

pub returns-in-Err-clause-bad : goal.returns-in-Err-clause-bad
returns-in-Err-clause-bad c = λ bad. pattern_none c.args.whole_path c.args.text.now (c.in-Err.ensures.bad bad)

pub returns-in-Err-marked_for-clause-bad : goal.returns-in-Err-marked_for-clause-bad
returns-in-Err-marked_for-clause-bad c = λ bad. pattern_some c.args.whole_path c.args.text.now c.in-Ok.parts.items c.in-Ok.ensures.ok ∙ c.in-Err-marked_for.ensures.bad bad

pub returns-in-Ok-marked_for-clause-ok : goal.returns-in-Ok-marked_for-clause-ok
returns-in-Ok-marked_for-clause-ok c = pattern_some c.args.whole_path c.args.text.now c.in-Ok.parts.items c.in-Ok.ensures.ok ∙ c.in-Ok-marked_for.ensures.ok
