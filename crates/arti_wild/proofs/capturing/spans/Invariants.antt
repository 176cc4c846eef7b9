use Rattle.std.proofs.Common.{◌≡◌, ◌++◌, length, drop}
use Rattle.std.specs.Prelude.{map, reverse}
use Rattle.arti_wild.specs.Places.{walk, by_offsets}
use Rattle.arti_wild.proofs.capturing.spans.Given as goal

abbrev pub invariant-parts : goal.invariant-parts
invariant-parts l =
    map (by_offsets l.offsets) (walk (length l.offsets) 0 0 l.parts (reverse l.initial.places.items)) ≡ l.spans.items ++ map (by_offsets l.offsets) (walk (length l.offsets) l.opened l.at (drop l.part-index l.parts) (reverse l.places.items))
