use Rattle.std.proofs.Common.{◌≡◌, length}
use denote.Shadow.{shadow}
use denote.Text.{Utf8}
use Rattle.arti_wild.specs.Fits.{any_rest}
use Rattle.arti_wild.specs.Ant.{segments_fit, segments_left, pattern_left}
use Rattle.arti_wild.proofs.segments.find.Given as goal

abbrev pub invariant-rests : goal.invariant-rests
invariant-rests l =
    (any_rest (segments_fit (pattern_left l.more_pattern l.pattern)) (segments_left l.initial.more_path l.initial.path) ≡ any_rest (segments_fit (pattern_left l.more_pattern l.pattern)) (segments_left l.more_path l.path))
    × shadow (Utf8 l.pattern) × shadow (Utf8 l.path)

abbrev pub decreases-rests : goal.decreases-rests
decreases-rests l = length (segments_left l.more_path l.path)
