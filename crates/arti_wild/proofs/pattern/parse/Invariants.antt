use Rattle.std.proofs.Common.{◌≡◌, length, false, ◌++◌}
use Rattle.std.specs.Prelude.{option_map}
use denote.Shadow.{shadow}
use denote.Text.{Utf8}
use Rattle.std.specs.Str.{chars}
use Rattle.arti_wild.specs.Parts.{parts_of}
use Rattle.arti_wild.proofs.pattern.parse.Given as goal

abbrev pub invariant-parts : goal.invariant-parts
invariant-parts l =
    (parts_of false (chars l.initial.text) ≡ option_map (λ more. l.parts.items ++ more) (parts_of l.inside (chars l.text)))
    × shadow (Utf8 l.text)

abbrev pub decreases-parts : goal.decreases-parts
decreases-parts l = length (chars l.text)
