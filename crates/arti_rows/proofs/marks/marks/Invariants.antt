use Rattle.std.proofs.Common.{◌≡◌, length, ◌++◌}
use denote.Shadow.{shadow}
use denote.Text.{Utf8}
use Rattle.std.specs.Str.{chars}
use Rattle.arti_rows.specs.PropTexts.{marks_of}
use Rattle.arti_rows.proofs.marks.marks.Given as goal

abbrev pub invariant-marks : goal.invariant-marks
invariant-marks l = (marks_of (chars l.initial.text) ≡ l.marks.items ++ marks_of (chars l.text)) × shadow (Utf8 l.text)

abbrev pub decreases-marks : goal.decreases-marks
decreases-marks l = length (chars l.text)
