use Rattle.std.proofs.Common.{◌≡◌, length}
use denote.Shadow.{shadow}
use denote.Text.{Utf8}
use Rattle.arti_wild.specs.Ant.{skip_spaces}
use Rattle.arti_wild.proofs.segments.skip_spaces.Given as goal

abbrev pub invariant-spaces : goal.invariant-spaces
invariant-spaces l = (skip_spaces l.initial.text ≡ skip_spaces l.text) × shadow (Utf8 l.text)

abbrev pub decreases-spaces : goal.decreases-spaces
decreases-spaces l = length l.text
