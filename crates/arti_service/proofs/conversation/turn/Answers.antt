use Rattle.std.proofs.Common.{◌<◌, ◌++◌, ℕ, List, inl, refl, arith}
use Rattle.arti_store.specs.Store.{shows}
use Rattle.arti_model.specs.Requests as model
use Rattle.arti_model.specs.Requests.{AtEnd, AtCut, AtBad, Head}
use Rattle.arti_wire.specs.Framing.{body_left}
use Rattle.arti_service.proofs.Talks.{too_many, ends_untold, ends_bad}
use Rattle.arti_service.proofs.Acting.{leaves_stock}
use Rattle.arti_service.proofs.Stops.{in_bad}
use Rattle.arti_service.proofs.Crashes.{bad_moments}
use Rattle.arti_service.proofs.conversation.turn.Goals as goal

pub returns-then-most-eq0-clause-ends : goal.returns-then-most-eq0-clause-ends
returns-then-most-eq0-clause-ends g c = λ gt st ct.
    let input : List ℕ = c.args.wire.now.ahead ++ g.S.Source.left c.args.source.now in
    too_many c.bytes_begin_with_one_thing.ensures c.args.store.now.limits c.args.most (g.C.Clock.moments c.args.clock.now) (shows (g.G.Ground.state c.args.ground.now) c.args.store.now) input ((g.G.Ground.state c.args.ground.now).told c.args.line)
    AtCut c.if-most-eq0.true (rw (c.limits.ensures, c.in-Ok-Cut.field-0-is) at (c.in-Ok-Cut.ensures.starts st)) (λ e. cc)

pub returns-then-most-eq0-2-clause-ends : goal.returns-then-most-eq0-2-clause-ends
returns-then-most-eq0-2-clause-ends g c = λ gt st ct.
    let input : List ℕ = c.args.wire.now.ahead ++ g.S.Source.left c.args.source.now in
    too_many c.bytes_begin_with_one_thing.ensures c.args.store.now.limits c.args.most (g.C.Clock.moments c.args.clock.now) (shows (g.G.Ground.state c.args.ground.now) c.args.store.now) input ((g.G.Ground.state c.args.ground.now).told c.args.line)
    (AtBad c.in-Ok-Bad.why) c.if-most-eq0-2.true (rw (c.limits.ensures, c.in-Ok-Bad.field-0-is) at (c.in-Ok-Bad.ensures.starts st)) (λ e. cc)

pub returns-then-most-eq0-3-clause-ends : goal.returns-then-most-eq0-3-clause-ends
returns-then-most-eq0-3-clause-ends g c = λ gt st ct.
    let input : List ℕ = c.args.wire.now.ahead ++ g.S.Source.left c.args.source.now in
    let rest : List ℕ = c.next_head.new.self.ahead ++ g.S.Source.left c.next_head.new.source in
    too_many c.bytes_begin_with_one_thing.ensures c.args.store.now.limits c.args.most (g.C.Clock.moments c.args.clock.now) (shows (g.G.Ground.state c.args.ground.now) c.args.store.now) input ((g.G.Ground.state c.args.ground.now).told c.args.line)
    (Head c.in-Ok-Head.request (body_left c.next_head.new.self.phase) rest) c.if-most-eq0-3.true (rw (c.limits.ensures, c.in-Ok-Head.field-0-is) at (c.in-Ok-Head.ensures.starts st)) (λ e. cc)

pub returns-in-Ok-End-clause-ends : goal.returns-in-Ok-End-clause-ends
returns-in-Ok-End-clause-ends g c = λ gt st ct.
    let input : List ℕ = c.args.wire.now.ahead ++ g.S.Source.left c.args.source.now in
    let told = (g.G.Ground.state c.args.ground.now).told c.args.line in
    let stock = shows (g.G.Ground.state c.args.ground.now) c.args.store.now in
    ends_untold c.args.store.now.limits c.args.most (g.C.Clock.moments c.args.clock.now) stock input model.End told told stock refl
    (rw (c.limits.ensures, c.in-Ok-End.field-0-is) at (c.in-Ok-End.ensures.starts st)) refl refl

pub returns-else-most-eq0-clause-ends : goal.returns-else-most-eq0-clause-ends
returns-else-most-eq0-clause-ends g c = λ gt st ct.
    let input : List ℕ = c.args.wire.now.ahead ++ g.S.Source.left c.args.source.now in
    let told = (g.G.Ground.state c.args.ground.now).told c.args.line in
    let some : 0 < c.args.most = omega arith in
    ends_untold c.args.store.now.limits c.args.most (g.C.Clock.moments c.args.clock.now) (shows (g.G.Ground.state c.args.ground.now) c.args.store.now) input model.Cut told told (shows (g.G.Ground.state c.args.ground.now) c.args.store.now) refl (some, inl (rw (c.limits.ensures, c.in-Ok-Cut.field-0-is) at (c.in-Ok-Cut.ensures.starts st))) refl refl

pub returns-else-most-eq0-3-clause-ends : goal.returns-else-most-eq0-3-clause-ends
returns-else-most-eq0-3-clause-ends g c = λ gt st ct.
    let input : List ℕ = c.args.wire.now.ahead ++ g.S.Source.left c.args.source.now in
    c.turn_on.ensures.ends gt st ct input (rw (c.limits.ensures, c.in-Ok-Head.field-0-is) at (c.in-Ok-Head.ensures.starts st))

pub returns-else-most-eq0-2-clause-stops : goal.returns-else-most-eq0-2-clause-stops
returns-else-most-eq0-2-clause-stops g c = λ gt st ct.
    let input : List ℕ = c.args.wire.now.ahead ++ g.S.Source.left c.args.source.now in
    let some : 0 < c.args.most = omega arith in
    in_bad c.args.store.now.limits (record { most = c.args.most; moments = g.C.Clock.moments c.args.clock.now; stock = shows (g.G.Ground.state c.args.ground.now) c.args.store.now; input = input }) c.in-Ok-Bad.why _ _ (shows (g.G.Ground.state c.end_bad.new.ground) c.args.store.now) _ some
    (rw (c.limits.ensures, c.in-Ok-Bad.field-0-is) at (c.in-Ok-Bad.ensures.starts st)) (leaves_stock (g.G.Ground.state c.args.ground.now) (g.G.Ground.state c.end_bad.new.ground) c.args.store.now (c.end_bad.ensures.leaves gt)) (c.end_bad.ensures.stops gt)

pub returns-else-most-eq0-3-clause-stops : goal.returns-else-most-eq0-3-clause-stops
returns-else-most-eq0-3-clause-stops g c = λ gt st ct.
    let input : List ℕ = c.args.wire.now.ahead ++ g.S.Source.left c.args.source.now in
    c.turn_on.ensures.stops gt st ct input (rw (c.limits.ensures, c.in-Ok-Head.field-0-is) at (c.in-Ok-Head.ensures.starts st))

pub returns-else-most-eq0-2-clause-moments : goal.returns-else-most-eq0-2-clause-moments
returns-else-most-eq0-2-clause-moments g c = λ gt st ct.
    bad_moments c.args.store.now.limits c.args.most (g.C.Clock.moments c.args.clock.now) c.args.line (g.G.Ground.state c.args.ground.now) (g.G.Ground.state c.end_bad.new.ground) c.args.store.now
    (c.args.wire.now.ahead ++ g.S.Source.left c.args.source.now) c.in-Ok-Bad.why c.requires.ready (c.requires.holds gt) (c.end_bad.ensures.time gt)

pub returns-else-most-eq0-3-clause-moments : goal.returns-else-most-eq0-3-clause-moments
returns-else-most-eq0-3-clause-moments g c = λ gt st ct.
    let input : List ℕ = c.args.wire.now.ahead ++ g.S.Source.left c.args.source.now in
    c.turn_on.ensures.moments gt st ct input (rw (c.limits.ensures, c.in-Ok-Head.field-0-is) at (c.in-Ok-Head.ensures.starts st))

pub returns-else-most-eq0-2-clause-ends : goal.returns-else-most-eq0-2-clause-ends
returns-else-most-eq0-2-clause-ends g c = λ gt st ct.
    let input : List ℕ = c.args.wire.now.ahead ++ g.S.Source.left c.args.source.now in
    let some : 0 < c.args.most = omega arith in
    ends_bad c.args.store.now.limits c.args.most (g.C.Clock.moments c.args.clock.now) (shows (g.G.Ground.state c.args.ground.now) c.args.store.now) input c.in-Ok-Bad.why c.end_bad.result
    ((g.G.Ground.state c.args.ground.now).told c.args.line) ((g.G.Ground.state c.end_bad.new.ground).told c.args.line) (shows (g.G.Ground.state c.end_bad.new.ground) c.args.store.now) some
    (rw (c.limits.ensures, c.in-Ok-Bad.field-0-is) at (c.in-Ok-Bad.ensures.starts st))
    (c.end_bad.ensures.told gt) (leaves_stock (g.G.Ground.state c.args.ground.now) (g.G.Ground.state c.end_bad.new.ground) c.args.store.now (c.end_bad.ensures.leaves gt))

pub returns-else-most-eq0-3-clause-turns : goal.returns-else-most-eq0-3-clause-turns
returns-else-most-eq0-3-clause-turns g c = λ gt st ct.
    let input : List ℕ = c.args.wire.now.ahead ++ g.S.Source.left c.args.source.now in
    c.turn_on.ensures.turns gt st ct input (rw (c.limits.ensures, c.in-Ok-Head.field-0-is) at (c.in-Ok-Head.ensures.starts st))
