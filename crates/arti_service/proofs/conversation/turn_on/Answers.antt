use Rattle.std.proofs.Common.{◌≡◌, true, false, sym, subst, rules}
use Rattle.arti_store.specs.Store.{shows}
use Rattle.arti_wire.specs.Framing.{body_left}
use Rattle.std.proofs.Common.{List, ℕ, ◌++◌}
use Rattle.arti_service.specs.Talk.{Answers}
use Rattle.arti_service.proofs.Talks.{at_stream_end, ends_in_body, ends_at_last, turns}
use Rattle.arti_service.proofs.Stops.{in_one}
use Rattle.arti_service.proofs.Acting.{moments_map}
use Rattle.arti_service.proofs.Crashes.{during_one}
use Rattle.arti_service.proofs.conversation.turn_on.Goals as goal

pub returns-in-Err-clause-ends : goal.returns-in-Err-clause-ends
returns-in-Err-clause-ends g c = λ gt st ct input begins.
    let told = (g.G.Ground.state c.args.ground.now).told c.args.line in
    let told' = (g.G.Ground.state c.answer_next.new.ground).told c.args.line in
    let s = shows (g.G.Ground.state c.args.ground.now) c.args.store.now in
    let s' = shows (g.G.Ground.state c.answer_next.new.ground) c.answer_next.new.store in
    let all = Answers c.args.store.now.limits c.args.most (g.C.Clock.moments c.args.clock.now) s input told told' s' in
    let rest : List ℕ = c.args.wire.now.ahead ++ g.S.Source.left c.args.source.now in
    at_stream_end _ all (λ x cut. subst all (sym cut.0) (ends_in_body c.args.store.now.limits c.args.most (g.C.Clock.moments c.args.clock.now) s input c.args.request.now (body_left c.args.wire.now.phase) rest c.requires.some begins told told' s' cut.1))
    c.in-Err.ending (c.in-Err.ensures.cut gt st)

pub returns-then-last-clause-ends : goal.returns-then-last-clause-ends
returns-then-last-clause-ends g c = λ gt st ct input begins.
    let limits = c.args.store.now.limits in
    let most = c.args.most in
    let moments = g.C.Clock.moments c.args.clock.now in
    let moments' = g.C.Clock.moments c.answer_next.new.clock in
    let r = shows (g.G.Ground.state c.args.ground.now) c.args.store.now in
    let told = (g.G.Ground.state c.args.ground.now).told c.args.line in
    let told' = (g.G.Ground.state c.answer_next.new.ground).told c.args.line in
    let n = body_left c.args.wire.now.phase in
    let rest : List ℕ = c.args.wire.now.ahead ++ g.S.Source.left c.args.source.now in
    let input' : List ℕ = c.answer_next.new.wire.ahead ++ g.S.Source.left c.answer_next.new.source in
    let last : c.args.request.now.last ≡ true = search rules in
    ends_at_last limits most moments r input c.args.request.now n rest c.requires.some begins moments' (shows (g.G.Ground.state c.answer_next.new.ground) c.answer_next.new.store) input' told told' (c.in-Ok.ensures.one gt st ct) last

pub returns-else-last-clause-turns : goal.returns-else-last-clause-turns
returns-else-last-clause-turns g c = λ gt st ct input begins.
    let limits = c.args.store.now.limits in
    let most = c.args.most in
    let moments = g.C.Clock.moments c.args.clock.now in
    let moments' = g.C.Clock.moments c.answer_next.new.clock in
    let r = shows (g.G.Ground.state c.args.ground.now) c.args.store.now in
    let told = (g.G.Ground.state c.args.ground.now).told c.args.line in
    let told' = (g.G.Ground.state c.answer_next.new.ground).told c.args.line in
    let n = body_left c.args.wire.now.phase in
    let rest : List ℕ = c.args.wire.now.ahead ++ g.S.Source.left c.args.source.now in
    let input' : List ℕ = c.answer_next.new.wire.ahead ++ g.S.Source.left c.answer_next.new.source in
    let last : c.args.request.now.last ≡ false = search rules in
    turns limits most moments r input c.args.request.now n rest c.requires.some begins moments' (shows (g.G.Ground.state c.answer_next.new.ground) c.answer_next.new.store) input' told told' (c.in-Ok.ensures.one gt st ct) last

pub returns-in-Err-clause-stops : goal.returns-in-Err-clause-stops
returns-in-Err-clause-stops g c = λ gt st ct input begins.
    in_one c.args.store.now.limits c.args.most (g.C.Clock.moments c.args.clock.now) (shows (g.G.Ground.state c.args.ground.now) c.args.store.now) input c.args.request.now (body_left c.args.wire.now.phase)
    (c.args.wire.now.ahead ++ g.S.Source.left c.args.source.now) _ _ (shows (g.G.Ground.state c.answer_next.new.ground) c.answer_next.new.store) c.in-Err.ending c.requires.some begins (c.in-Err.ensures.stops gt st ct)

pub returns-in-Err-clause-moments : goal.returns-in-Err-clause-moments
returns-in-Err-clause-moments g c = λ gt st ct input begins.
    let limits = c.args.store.now.limits in
    let moments = g.C.Clock.moments c.args.clock.now in
    let s = shows (g.G.Ground.state c.args.ground.now) c.args.store.now in
    let n = body_left c.args.wire.now.phase in
    let rest : List ℕ = c.args.wire.now.ahead ++ g.S.Source.left c.args.source.now in
    moments_map limits c.args.line _ _ _ _ _ (during_one limits c.args.most moments s input c.args.request.now n rest c.requires.some begins) (c.answer_next.ensures.moments gt st ct)

pub returns-then-last-clause-moments : goal.returns-then-last-clause-moments
returns-then-last-clause-moments g c = λ gt st ct input begins.
    let limits = c.args.store.now.limits in
    let moments = g.C.Clock.moments c.args.clock.now in
    let s = shows (g.G.Ground.state c.args.ground.now) c.args.store.now in
    let n = body_left c.args.wire.now.phase in
    let rest : List ℕ = c.args.wire.now.ahead ++ g.S.Source.left c.args.source.now in
    moments_map limits c.args.line _ _ _ _ _ (during_one limits c.args.most moments s input c.args.request.now n rest c.requires.some begins) (c.answer_next.ensures.moments gt st ct)

pub returns-else-last-clause-moments : goal.returns-else-last-clause-moments
returns-else-last-clause-moments g c = λ gt st ct input begins.
    let limits = c.args.store.now.limits in
    let moments = g.C.Clock.moments c.args.clock.now in
    let s = shows (g.G.Ground.state c.args.ground.now) c.args.store.now in
    let n = body_left c.args.wire.now.phase in
    let rest : List ℕ = c.args.wire.now.ahead ++ g.S.Source.left c.args.source.now in
    moments_map limits c.args.line _ _ _ _ _ (during_one limits c.args.most moments s input c.args.request.now n rest c.requires.some begins) (c.answer_next.ensures.moments gt st ct)
