use Rattle.std.proofs.Common.{lit<}
use Rattle.arti_wild.proofs.SegmentLemmas.{cut_segment, whole_segment}
use Rattle.arti_wild.proofs.segments.next_segment.Goals as goal

pub returns-in-Some : goal.returns-in-Some
returns-in-Some c =
    let parts = c.in-Some.ensures.byte (lit< tt) (λ w o h. h) in
    cut_segment c.args.more c.args.text.now c.in-Some.segment.now c.in-Some.rest.now c.if-not-more.false parts.0 parts.1 parts.2

pub returns-in-None : goal.returns-in-None
returns-in-None c = whole_segment c.args.more c.args.text.now c.if-not-more.false (c.in-None.ensures.byte (lit< tt) (λ w o h. h))
