use Rattle.arti_wild.specs.Ant.{segments_left}
use Rattle.arti_wild.proofs.SegmentLemmas.{opened}
use Rattle.arti_wild.proofs.segments.next_pattern.Goals as goal

pub returns-in-Some : goal.returns-in-Some
returns-in-Some c =
    opened (segments_left c.args.more c.args.text.now) c.in-Some.segment.now c.end_of.result.now c.in-Some.more c.in-Some.rest.now c.in-Some.ensures c.end_of.ensures
