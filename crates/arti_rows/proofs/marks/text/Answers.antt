use Rattle.std.proofs.Common.{rules}
use Rattle.arti_rows.proofs.PropTexts.{text_more}
use Rattle.arti_rows.proofs.marks.text.Goals as goal

pub loop-mark-preserved : goal.loop-mark-preserved
loop-mark-preserved c =
    search (rules, text_more)
