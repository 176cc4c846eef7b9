use Rattle.std.proofs.Common.{◌≡◌, ◌≤◌, drop}
use Rattle.arti_targets.specs.Targets.{hole, hole_from}
use Rattle.arti_targets.proofs.target.hole.Given as goal

abbrev pub invariant-digits : goal.invariant-digits
invariant-digits l = record {
  same : hole_from l.seen l.number (drop l.c-index l.rest) ≡ hole l.rest;
  few : l.seen ≤ 3;
  three : l.number ≤ 999;
  two : l.seen ≤ 2 → l.number ≤ 99;
  one : l.seen ≤ 1 → l.number ≤ 9;
  none : l.seen ≤ 0 → l.number ≤ 0;
}
