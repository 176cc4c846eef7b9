use Rattle.std.proofs.Common.{◌≡◌, ◌++◌}
use Rattle.arti_model.specs.Requests.{skip}
use Rattle.arti_wire.proofs.reading.skip_line_ends.Given as goal

abbrev pub invariant-loop-ahead : goal.invariant-loop-ahead
invariant-loop-ahead g l =
    (g.S.Source.tells → skip l.most (l.ahead ++ g.S.Source.left l.source) ≡ skip 1024 (l.fn.ahead ++ g.S.Source.left l.fn.source))
    × (g.S.Source.faults l.source ≡ g.S.Source.faults l.fn.source)

abbrev pub decreases-loop-ahead : goal.decreases-loop-ahead
decreases-loop-ahead g l = l.most
