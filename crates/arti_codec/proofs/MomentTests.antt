-- The test of a moment, one way and the other.
use Rattle.arti_rows.specs.MomentLaws.{is_moment-true, IsMoment-passes}

pub ruleset moment_tests = (is_moment-true, IsMoment-passes)
