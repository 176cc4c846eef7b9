use Rattle.std.proofs.Common.{◌≡◌, take}
use Rattle.std.specs.Prelude.{string_bytes}
use Rattle.arti_rows.specs.PropTexts.{text_of}
use Rattle.arti_rows.proofs.marks.text.Given as goal

abbrev pub invariant-loop-mark : goal.invariant-loop-mark
invariant-loop-mark l = string_bytes l.text ≡ text_of (take l.mark-index l.marks)
