use Rattle.std.proofs.Common.{List, ℕ, ap, sym, subst, refl}
use Rattle.std.specs.Prelude.{Err}
use Rattle.arti_store.specs.declared.fault.OpenFault.{OpenFault}
use Rattle.arti_store.specs.Store.{holding_of, shows}
use Rattle.arti_service.specs.Stocks.{IsReady}
use Rattle.arti_main.specs.declared.top.Status.{Status}
use Rattle.arti_main.specs.Answered.{Replays, AtInputEnd, CutSo}
use Rattle.arti_main.proofs.Opens.{opening_alone, replies_so, cut_so, crash_so}
use Rattle.arti_main.proofs.top.replay.Goals as goal

pub returns-in-Err-NotAStore-clause-not_a_store : goal.returns-in-Err-NotAStore-clause-not_a_store
returns-in-Err-NotAStore-clause-not_a_store g c = λ gt is s has. c.in-Err-NotAStore.ensures.none gt (ap (λ (e : OpenFault). Err e) c.in-Err-NotAStore.field-0-is) s.holding s.used has

pub returns-in-Err-NotAStore-clause-crash : goal.returns-in-Err-NotAStore-clause-crash
returns-in-Err-NotAStore-clause-crash g c = λ gt st.
    let old = g.G.Ground.state c.args.ground.now in
    opening_alone c.args.limits.now c.args.start old.files (g.S.Source.left c.args.source.now) old.told old (g.G.Ground.state c.open.new.ground) refl refl (c.open.ensures.moments gt)

pub returns-in-Err-Device-clause-crash : goal.returns-in-Err-Device-clause-crash
returns-in-Err-Device-clause-crash g c = λ gt st.
    let old = g.G.Ground.state c.args.ground.now in
    opening_alone c.args.limits.now c.args.start old.files (g.S.Source.left c.args.source.now) old.told old (g.G.Ground.state c.open.new.ground) refl refl (c.open.ensures.moments gt)

pub returns-in-Err-Memory-clause-crash : goal.returns-in-Err-Memory-clause-crash
returns-in-Err-Memory-clause-crash g c = λ gt st.
    let old = g.G.Ground.state c.args.ground.now in
    opening_alone c.args.limits.now c.args.start old.files (g.S.Source.left c.args.source.now) old.told old (g.G.Ground.state c.open.new.ground) refl refl (c.open.ensures.moments gt)

pub returns-clause-a_store : goal.returns-clause-a_store
returns-clause-a_store g c = λ gt store disk memory.
    let bytes : List ℕ = (g.G.Ground.state c.args.ground.now).files 3 in
    (record { holding = holding_of bytes c.in-Ok.store; used = c.in-Ok.store.used }, c.in-Ok.ensures.stands gt)

pub returns-clause-replies : goal.returns-clause-replies
returns-clause-replies g c = λ gt st s has.
    let old = g.G.Ground.state c.args.ground.now in
    let new = g.G.Ground.state c.converse-ending.new.ground in
    let input : List ℕ = g.S.Source.left c.args.source.now in
    let talk = c.converse-ending.ensures in
    subst (λ (x : Status). AtInputEnd x (Replays c.args.limits.now c.args.start s input (old.told 0) (new.told 0) new.files)) (sym c.status_of.ensures)
    (replies_so c.files_stand_for_one_store.ensures c.args.limits.now c.args.start input old (g.G.Ground.state c.open.new.ground) new c.in-Ok.store
    (c.in-Ok.ensures.stands gt) (c.in-Ok.ensures.contents gt) (c.open.ensures.told gt) c.new-clock.result c.new-clock.ensures
    c.converse-ending.new.store c.converse-ending.result (talk.answers gt st tt) (talk.still gt) talk.ready s has)

pub returns-clause-cut : goal.returns-clause-cut
returns-clause-cut g c = λ gt st s has.
    let old = g.G.Ground.state c.args.ground.now in
    let new = g.G.Ground.state c.converse-ending.new.ground in
    let input : List ℕ = g.S.Source.left c.args.source.now in
    subst (λ (x : Status). CutSo x c.args.limits.now c.args.start s input (old.told 0) (new.told 0)) (sym c.status_of.ensures)
    (cut_so c.files_stand_for_one_store.ensures c.args.limits.now c.args.start input old (g.G.Ground.state c.open.new.ground) new c.in-Ok.store
    (c.in-Ok.ensures.stands gt) (c.in-Ok.ensures.contents gt) (c.open.ensures.told gt) c.new-clock.result c.new-clock.ensures
    (shows new c.converse-ending.new.store) c.converse-ending.result (c.converse-ending.ensures.stops gt st tt) s has)

pub returns-clause-crash : goal.returns-clause-crash
returns-clause-crash g c = λ gt st.
    let old = g.G.Ground.state c.args.ground.now in
    let ready : IsReady c.args.limits.now c.in-Ok.store = record { still_open = c.in-Ok.ensures.still_open; limits_are = c.in-Ok.ensures.limits; unstaged = c.in-Ok.ensures.staging } in
    crash_so c.files_stand_for_one_store.ensures c.args.limits.now c.args.start (g.S.Source.left c.args.source.now) old (g.G.Ground.state c.open.new.ground) (g.G.Ground.state c.converse-ending.new.ground) c.in-Ok.store
    (c.in-Ok.ensures.stands gt) (c.in-Ok.ensures.contents gt) (c.open.ensures.told gt) c.new-clock.result c.new-clock.ensures
    (g.met.G.Ground.sound c.args.ground.now gt) (g.met.G.Ground.sound c.open.new.ground gt) ready (c.in-Ok.ensures.holds gt) (c.open.ensures.moments gt) (c.converse-ending.ensures.moments gt st tt)
