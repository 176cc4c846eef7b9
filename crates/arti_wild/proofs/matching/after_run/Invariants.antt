use Rattle.std.proofs.Common.{◌≡◌, length}
use denote.Shadow.{shadow}
use denote.Text.{Utf8}
use Rattle.std.specs.Str.{chars}
use Rattle.arti_wild.specs.Wild.{wild_chars, takes_char}
use Rattle.arti_wild.specs.Run.{IsStuck}
use Rattle.arti_wild.proofs.matching.after_run.Given as goal

abbrev pub invariant-stars : goal.invariant-stars
invariant-stars l =
    (wild_chars (chars l.initial.pattern) (chars l.initial.text) ≡ wild_chars (chars l.pattern) (chars l.text))
    × IsStuck takes_char (chars l.pattern) (chars l.text)
    × shadow (Utf8 l.pattern) × shadow (Utf8 l.text)

abbrev pub decreases-stars : goal.decreases-stars
decreases-stars l = length (chars l.pattern)
