use Rattle.std.proofs.Common.{◌++◌, ℕ, List}
use Rattle.arti_store.specs.Store.{shows}
use Rattle.arti_wire.specs.Framing.{body_left}
use Rattle.arti_service.proofs.Stops.{in_answer}
use Rattle.arti_service.proofs.Talks.{at_stream_end}
use Rattle.arti_service.proofs.Crashes.{whole_moments}
use Rattle.arti_service.proofs.conversation.answer_next.Goals as goal

pub returns-in-Ok-clause-moments : goal.returns-in-Ok-clause-moments
returns-in-Ok-clause-moments g c = λ gt st ct.
    let body = c.in-Ok-Some.body.items in
    let rest : List ℕ = c.read_body.new.wire.ahead ++ g.S.Source.left c.read_body.new.source in
    let read = rw c.in-Ok-Some.field-0-is at (c.in-Ok-Some.ensures.body st) in
    whole_moments c.args.store.now.limits c.args.line (g.C.Clock.moments c.args.clock.now) c.now-moment.result (g.G.Ground.state c.args.ground.now) (g.G.Ground.state c.answer.new.ground) (shows (g.G.Ground.state c.args.ground.now) c.args.store.now) c.args.request.now (body_left c.args.wire.now.phase)
    (c.args.wire.now.ahead ++ g.S.Source.left c.args.source.now) c.deref.result.now body rest c.deref.ensures.value (c.now-moment.ensures.moment ct) read.0 read.1 (c.answer.ensures.acts gt).moments

pub returns-clause-moments : goal.returns-clause-moments
returns-clause-moments g c = λ gt st ct.
    let body = c.in-Ok-Some.body.items in
    let rest : List ℕ = c.read_body.new.wire.ahead ++ g.S.Source.left c.read_body.new.source in
    let read = rw c.in-Ok-Some.field-0-is at (c.in-Ok-Some.ensures.body st) in
    whole_moments c.args.store.now.limits c.args.line (g.C.Clock.moments c.args.clock.now) c.now-moment.result (g.G.Ground.state c.args.ground.now) (g.G.Ground.state c.answer.new.ground) (shows (g.G.Ground.state c.args.ground.now) c.args.store.now) c.args.request.now (body_left c.args.wire.now.phase)
    (c.args.wire.now.ahead ++ g.S.Source.left c.args.source.now) c.deref.result.now body rest c.deref.ensures.value (c.now-moment.ensures.moment ct) read.0 read.1 (c.answer.ensures.acts gt).moments

pub returns-clause-stops : goal.returns-clause-stops
returns-clause-stops g c = λ gt st ct.
    let body = c.in-Ok-Some.body.items in
    let rest : List ℕ = c.read_body.new.wire.ahead ++ g.S.Source.left c.read_body.new.source in
    let read = rw c.in-Ok-Some.field-0-is at (c.in-Ok-Some.ensures.body st) in
    in_answer c.args.store.now.limits (g.C.Clock.moments c.args.clock.now) c.now-moment.result (shows (g.G.Ground.state c.args.ground.now) c.args.store.now) c.args.request.now (body_left c.args.wire.now.phase)
    (c.args.wire.now.ahead ++ g.S.Source.left c.args.source.now) c.deref.result.now body rest ((g.G.Ground.state c.args.ground.now).told c.args.line) ((g.G.Ground.state c.answer.new.ground).told c.args.line) (shows (g.G.Ground.state c.answer.new.ground) c.answer.new.store) c.in-Err.stop c.ending_of.result c.deref.ensures.value (c.now-moment.ensures.moment ct) read.0 read.1 c.ending_of.ensures.stop (c.in-Err.ensures.acts gt).stops (λ is. (c.in-Err.ensures.acts gt).stock (λ q. cc (q, is)) (λ q. cc (q, is)))

pub returns-clause-cut : goal.returns-clause-cut
returns-clause-cut g c = λ gt st. at_stream_end _ _ (λ x none. absurd none) c.ending_of.result c.ending_of.ensures.fault
