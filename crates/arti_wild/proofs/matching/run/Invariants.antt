use Rattle.std.proofs.Common.{◌≡◌, length}
use denote.Shadow.{shadow}
use denote.Text.{Utf8}
use Rattle.std.specs.Str.{chars}
use Rattle.arti_wild.specs.Wild.{takes_char}
use Rattle.arti_wild.specs.Run.{run_of}
use Rattle.arti_wild.proofs.matching.run.Given as goal

abbrev pub invariant-loop-more_pattern : goal.invariant-loop-more_pattern
invariant-loop-more_pattern l =
    (run_of takes_char (chars l.initial.pattern) (chars l.initial.text) ≡ run_of takes_char (chars l.pattern) (chars l.text))
    × shadow (Utf8 l.pattern) × shadow (Utf8 l.text)

abbrev pub decreases-loop-more_pattern : goal.decreases-loop-more_pattern
decreases-loop-more_pattern l = length (chars l.text)
