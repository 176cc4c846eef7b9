use Rattle.std.proofs.Common.{sym, ap, ◌∙◌, Some}
use Rattle.arti_targets.proofs.ReadingLemmas.{no_wrong_char}
use Rattle.arti_targets.proofs.target.read_target.Goals as goal

pub unreachable-requires : goal.unreachable-requires
unreachable-requires c = no_wrong_char c.args.groups c.in-Some-Char.field-0-0 c.deref-2.result.now (sym c.wrong_part.ensures ∙ c.in-Some-Char.is ∙ ap Some c.in-Some-Char.field-0-is)
