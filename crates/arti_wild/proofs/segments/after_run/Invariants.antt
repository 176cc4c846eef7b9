use Rattle.std.proofs.Common.{◌≡◌, length}
use denote.Shadow.{shadow}
use denote.Text.{Utf8}
use Rattle.arti_wild.specs.Ant.{segments_fit, takes_segment, segments_left, pattern_left}
use Rattle.arti_wild.specs.Run.{IsStuck}
use Rattle.arti_wild.proofs.segments.after_run.Given as goal

abbrev pub invariant-stars : goal.invariant-stars
invariant-stars l =
    (segments_fit (pattern_left l.initial.more_pattern l.initial.pattern) (segments_left l.initial.more_path l.initial.path) ≡ segments_fit (pattern_left l.more_pattern l.pattern) (segments_left l.more_path l.path))
    × IsStuck takes_segment (pattern_left l.more_pattern l.pattern) (segments_left l.more_path l.path)
    × shadow (Utf8 l.pattern) × shadow (Utf8 l.path)

abbrev pub decreases-stars : goal.decreases-stars
decreases-stars l = length (pattern_left l.more_pattern l.pattern)
