use Rattle.std.proofs.Common.{◌≡◌, length}
use denote.Shadow.{shadow}
use denote.Text.{Utf8}
use Rattle.std.specs.Str.{chars}
use Rattle.arti_wild.specs.Fits.{any_rest}
use Rattle.arti_wild.specs.Wild.{wild_chars}
use Rattle.arti_wild.proofs.matching.find.Given as goal

abbrev pub invariant-loop-text : goal.invariant-loop-text
invariant-loop-text l =
    (any_rest (wild_chars (chars l.pattern)) (chars l.initial.text) ≡ any_rest (wild_chars (chars l.pattern)) (chars l.text))
    × shadow (Utf8 l.pattern) × shadow (Utf8 l.text)

abbrev pub decreases-loop-text : goal.decreases-loop-text
decreases-loop-text l = length (chars l.text)
