use Rattle.std.proofs.Common.{◌≡◌, ◌-◌, ◌≤◌, length, drop}
use Rattle.arti_wire.specs.Lines.{SameSearch}
use Rattle.arti_wire.proofs.lines.search_on.Given as goal

abbrev pub invariant-loop-after : goal.invariant-loop-after
invariant-loop-after l =
    (l.rest ≡ drop (length l.bytes - length l.rest) l.bytes)
    × (length l.rest ≤ length l.bytes)
    × SameSearch (drop l.from l.bytes) l.rest

abbrev pub decreases-loop-after : goal.decreases-loop-after
decreases-loop-after l = length l.rest
