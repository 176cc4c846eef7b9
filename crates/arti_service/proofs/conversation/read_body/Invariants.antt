use Rattle.std.proofs.Common.{◌≡◌, ◌+◌, ◌++◌, length}
use Rattle.arti_wire.specs.Framing.{IsInBody, body_left}
use Rattle.arti_service.proofs.conversation.read_body.Given as goal

abbrev pub invariant-pieces : goal.invariant-pieces
invariant-pieces g l = record {
  phase : IsInBody l.wire.phase;
  count : length l.body.items + body_left l.wire.phase ≡ body_left l.fn.wire.phase;
  bytes : g.S.Source.tells → l.fn.wire.ahead ++ g.S.Source.left l.fn.source ≡ l.body.items ++ (l.wire.ahead ++ g.S.Source.left l.source);
  faults : g.S.Source.faults l.source ≡ g.S.Source.faults l.fn.source;
}

abbrev pub decreases-pieces : goal.decreases-pieces
decreases-pieces g l = body_left l.wire.phase
