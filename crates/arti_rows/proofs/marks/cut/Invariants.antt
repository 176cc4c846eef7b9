use Rattle.std.proofs.Common.{◌≡◌, ℕ, ◌<◌, get_or}
use Rattle.std.specs.Prelude.{false}
use Rattle.arti_rows.specs.PropTexts.{ends}
use Rattle.arti_rows.specs.declared.mark.Mark.{Mark}
use Rattle.arti_rows.proofs.marks.cut.Given as goal

abbrev pub invariant-loop-i : goal.invariant-loop-i
invariant-loop-i l = (k : ℕ) (d : Mark) → k < l.i → ends l.c (get_or l.marks k d) ≡ false
