use Rattle.std.proofs.Common.{◌≡◌, length, ◌++◌}
use denote.Shadow.{shadow}
use denote.Text.{Utf8}
use Rattle.std.specs.Str.{chars}
use Rattle.arti_wild.proofs.capturing.decode.Given as goal

abbrev pub invariant-chars : goal.invariant-chars
invariant-chars l = (chars l.initial.text ≡ l.decoded.items ++ chars l.text) × shadow (Utf8 l.text)

abbrev pub decreases-chars : goal.decreases-chars
decreases-chars l = length (chars l.text)
