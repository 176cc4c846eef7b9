use Rattle.std.proofs.Common.{◌≡◌, length}
use denote.Shadow.{shadow}
use denote.Text.{Utf8}
use Rattle.arti_wild.specs.Ant.{ant_path}
use Rattle.arti_wild.proofs.segments.ant.Given as goal

abbrev pub invariant-patterns : goal.invariant-patterns
invariant-patterns l =
    (ant_path l.initial.patterns l.path ≡ ant_path l.patterns l.path) × shadow (Utf8 l.patterns) × shadow (Utf8 l.path)

abbrev pub decreases-patterns : goal.decreases-patterns
decreases-patterns l = length l.patterns
