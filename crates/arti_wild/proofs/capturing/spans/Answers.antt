use Rattle.std.proofs.Common.{length, drop, ◌+◌, get_or}
use Rattle.std.specs.Prelude.{map, reverse}
use Rattle.std.proofs.lemmas.List.{drop_all, drop_more}
use Rattle.arti_wild.specs.declared.part.Part.TheVariants.{Char}
use Rattle.arti_wild.specs.Places.{walk, by_offsets, closed}
use Rattle.arti_wild.proofs.WalkLemmas.{walk_step, walk_end, told_more, told_all}
use Rattle.arti_wild.proofs.capturing.spans.Goals as goal

pub parts-preserved : goal.parts-preserved
parts-preserved c =
    let i = c.parts.part-index in
    let part = get_or c.args.parts.now i (Char 0) in
    let rest = drop (i + 1) c.args.parts.now in
    told_more (by_offsets c.args.offsets.now) (map (by_offsets c.args.offsets.now) (walk (length c.args.offsets.now) 0 0 c.args.parts.now (reverse c.args.places.items))) c.parts.spans.items c.close.new.spans.items
    (walk (length c.args.offsets.now) c.parts.opened c.parts.at (drop i c.args.parts.now) (reverse c.parts.places.items)) (closed part c.parts.opened c.parts.at)
    (walk (length c.args.offsets.now) c.opened_after-opened.result c.place_after-at.result rest (reverse c.place_after-at.new.places.items)) c.parts.invariant
    (walk_step (length c.args.offsets.now) c.parts.opened c.parts.at (drop i c.args.parts.now) rest part (reverse c.parts.places.items) (reverse c.place_after-at.new.places.items) c.place_after-at.result c.opened_after-opened.result
    (drop_more c.args.parts.now i (Char 0) c.parts-test.true) c.place_after-at.ensures c.opened_after-opened.ensures)
    c.in_ok-close.ensures

pub returns : goal.returns
returns c =
    told_all (by_offsets c.args.offsets.now) _ c.parts.spans.items _ c.parts.invariant
    (walk_end (length c.args.offsets.now) c.parts.opened c.parts.at (drop c.parts.part-index c.args.parts.now) (reverse c.parts.places.items) (drop_all c.parts.part-index c.args.parts.now c.parts-test.false))
