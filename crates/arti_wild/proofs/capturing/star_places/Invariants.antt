use Rattle.std.proofs.Common.{◌≡◌, ◌≤◌, length, drop, ◌+◌}
use Rattle.std.specs.Prelude.{reverse}
use Rattle.arti_wild.specs.Places.{IsRow, AreStarPlaces}
use Rattle.arti_wild.proofs.capturing.star_places.Given as goal

abbrev pub invariant-parts : goal.invariant-parts
invariant-parts l = record {
  within : l.i ≤ length l.parts;
  size : length l.row.items ≡ length l.text + 1;
  rows : IsRow (drop l.i l.parts) l.text l.row.items × AreStarPlaces (drop l.i l.parts) l.text (reverse l.places.items);
}

abbrev pub decreases-parts : goal.decreases-parts
decreases-parts l = l.i
