use Rattle.std.proofs.Common.{◌≡◌, length}
use denote.Shadow.{shadow}
use denote.Text.{Utf8}
use Rattle.arti_wild.specs.Ant.{takes_segment, segments_left, pattern_left}
use Rattle.arti_wild.specs.Run.{run_of}
use Rattle.arti_wild.proofs.segments.run.Given as goal

abbrev pub invariant-steps : goal.invariant-steps
invariant-steps l =
    (run_of takes_segment (pattern_left l.initial.more_pattern l.initial.pattern) (segments_left l.initial.more_path l.initial.path) ≡ run_of takes_segment (pattern_left l.more_pattern l.pattern) (segments_left l.more_path l.path))
    × shadow (Utf8 l.pattern) × shadow (Utf8 l.path)

abbrev pub decreases-steps : goal.decreases-steps
decreases-steps l = length (segments_left l.more_path l.path)
