use Rattle.std.proofs.Common.{◌≡◌, ◌-◌, ◌≤◌, ◌++◌, length, take}
use Rattle.arti_wire.proofs.reading.fill_head.Given as goal

abbrev pub invariant-loop-to : goal.invariant-loop-to
invariant-loop-to g l =
    (g.S.Source.tells → l.ahead ++ g.S.Source.left l.source ≡ l.fn.ahead ++ g.S.Source.left l.fn.source)
    × (take (length l.fn.ahead) l.ahead ≡ l.fn.ahead)
    × (l.from ≤ length (take 32768 l.ahead))
    × (g.S.Source.faults l.source ≡ g.S.Source.faults l.fn.source)

abbrev pub decreases-loop-to : goal.decreases-loop-to
decreases-loop-to g l = 32768 - length l.ahead
