use Rattle.std.proofs.Common.{◌≡◌, ◌+◌, ◌≤◌, length}
use Rattle.std.specs.Str.{IsUtf8}
use Rattle.arti_rows.specs.Names.{first_fault, segments_of}
use Rattle.arti_rows.proofs.key.path_fault.Given as goal

abbrev pub invariant-segments : goal.invariant-segments
invariant-segments l = record {
  text : IsUtf8 l.rest;
  faults : first_fault (segments_of l.rest) ≡ first_fault (segments_of l.whole);
  count : l.before + length (segments_of l.rest) ≡ length (segments_of l.whole);
  short : l.before + length l.rest ≤ length l.whole;
}

abbrev pub decreases-segments : goal.decreases-segments
decreases-segments l = length l.rest
