use Rattle.std.proofs.lemmas.List.{length-take}
use Rattle.arti_store.specs.Store.{shows}
use Rattle.std.proofs.Common.{length, drop, length-append, ◌≡◌, ◌++◌, ℕ, refl, ap, ◌∙◌, subst, arith, rules}
use Rattle.std.specs.Prelude.{Err}
use Rattle.arti_ground.specs.State.{Counts}
use Rattle.arti_ground.specs.Moments.{passes_none, passes_then}
use Rattle.arti_service.specs.Faults.{CountsTold}
use Rattle.arti_service.specs.declared.conversation.Ending.{Ending}
use Rattle.arti_service.specs.declared.conversation.Ending.TheVariants as ending
use Rattle.arti_service.proofs.Talks.{goes_through, starts_so, goes_so}
use Rattle.arti_service.proofs.Stops.{none_so_far, one_more, behind, at_once}
use Rattle.arti_service.proofs.Crashes.{later_moments}
use Rattle.arti_service.proofs.conversation.converse.Goals as goal

pub requests-init : goal.requests-init
requests-init g c =
    let stock = shows (g.G.Ground.state c.args.ground.now) c.args.store.now in
    record {
      phase = c.in-Ok.ensures.phase;
      room = search rules;
      ready = c.requires.ready;
      holds = c.requires.holds;
      talk = λ gt st ct e bytes after a.
          starts_so c.args.limits.now c.args.limits.now.requests (g.C.Clock.moments c.args.clock.now) stock c.in-Ok.wire.ahead (g.S.Source.left c.args.source.now)
          ((g.G.Ground.state c.args.ground.now).told c.args.line) e bytes after c.in-Ok.ensures.ahead a;
      so_far = λ gt st ct. none_so_far c.args.limits.now c.args.limits.now.requests (g.C.Clock.moments c.args.clock.now) stock c.in-Ok.wire.ahead (g.S.Source.left c.args.source.now)
          ((g.G.Ground.state c.args.ground.now).told c.args.line) c.in-Ok.ensures.ahead;
      moments = λ gt st ct. passes_none (g.G.Ground.state c.args.ground.now) _;
      tell_faults = refl;
      disk_faults = refl;
      source_faults = refl;
    }

pub requests-preserved : goal.requests-preserved
requests-preserved g c =
    let before = c.requests.invariant in
    let turned = c.in-Ok-turned.ensures in
    let same_limits = before.ready.limits_are in
    let old = c.requests.buf.items in
    let new = c.turn-turned.new.buf in
    let size : c.requests.buf.len ≡ length old = search rules in
    let same : length new ≡ length old = search rules in
    record {
      phase = turned.phase;
      room = omega (arith, length-take c.requests.buf.len (new ++ drop (length new) old), length-append new (drop (length new) old), size, same, before.room);
      ready = rw same_limits at (turned.ready (λ q. cc) (λ q. cc));
      holds = λ gt. turned.holds gt (λ q. cc) (λ q. cc);
      talk = λ gt st ct e bytes after a. goes_so c.args.limits.now c.requests.most (g.C.Clock.moments c.requests.clock) (g.C.Clock.moments c.turn-turned.new.clock)
          (shows (g.G.Ground.state c.requests.ground) c.requests.store) (shows (g.G.Ground.state c.turn-turned.new.ground) c.turn-turned.new.store)
          (c.requests.wire.ahead ++ g.S.Source.left c.requests.source) (c.turn-turned.new.wire.ahead ++ g.S.Source.left c.turn-turned.new.source)
          ((g.G.Ground.state c.requests.ground).told c.args.line) ((g.G.Ground.state c.turn-turned.new.ground).told c.args.line)
          c.args.limits.now.requests (g.C.Clock.moments c.args.clock.now) (shows (g.G.Ground.state c.args.ground.now) c.args.store.now) (g.S.Source.left c.args.source.now) ((g.G.Ground.state c.args.ground.now).told c.args.line)
          (rw same_limits at (turned.turns gt st ct)) (before.talk gt st ct) e bytes after a;
      so_far = λ gt st ct. one_more c.args.limits.now _ _ _ _ _ _ (before.so_far gt st ct) (rw same_limits at (turned.turns gt st ct)).one;
      moments = λ gt st ct.
          let so_far = before.so_far gt st ct in
          passes_then (g.G.Ground.state c.args.ground.now) (g.G.Ground.state c.requests.ground) (g.G.Ground.state c.turn-turned.new.ground) _ (before.moments gt st ct)
          (later_moments c.args.limits.now c.args.line _ _ _ _ so_far.0 _ _ so_far.1 so_far.2 (rw same_limits at (turned.moments gt st ct)));
      tell_faults = turned.tell.same (λ said. cc) ∙ before.tell_faults;
      disk_faults = turned.disk.same (λ said. cc) ∙ before.disk_faults;
      source_faults = turned.source.same (λ said. cc) ∙ before.source_faults;
    }

pub returns-in-Err-clause-answers : goal.returns-in-Err-clause-answers
returns-in-Err-clause-answers g c = λ gt st ct.
    goes_through c.args.limits.now c.requests.most (g.C.Clock.moments c.requests.clock) (shows (g.G.Ground.state c.requests.ground) c.requests.store) (c.requests.wire.ahead ++ g.S.Source.left c.requests.source)
    ((g.G.Ground.state c.requests.ground).told c.args.line) ((g.G.Ground.state c.turn-turned.new.ground).told c.args.line)
    c.args.limits.now.requests (g.C.Clock.moments c.args.clock.now) (shows (g.G.Ground.state c.args.ground.now) c.args.store.now) (shows (g.G.Ground.state c.turn-turned.new.ground) c.turn-turned.new.store)
    (g.S.Source.left c.args.source.now) ((g.G.Ground.state c.args.ground.now).told c.args.line)
    c.in-Err.ending (c.requests.invariant.talk gt st ct) (rw c.requests.invariant.ready.limits_are at (c.in-Err.ensures.ends gt st ct))

pub returns-in-Err-clause-moments : goal.returns-in-Err-clause-moments
returns-in-Err-clause-moments g c = λ gt st ct.
    let before = c.requests.invariant in
    let so_far = before.so_far gt st ct in
    passes_then (g.G.Ground.state c.args.ground.now) (g.G.Ground.state c.requests.ground) (g.G.Ground.state c.turn-turned.new.ground) _ (before.moments gt st ct)
    (later_moments c.args.limits.now c.args.line _ _ _ _ so_far.0 _ _ so_far.1 so_far.2 (rw before.ready.limits_are at (c.in-Err.ensures.moments gt st ct)))

pub returns-in-Err-clause-still : goal.returns-in-Err-clause-still
returns-in-Err-clause-still g c = λ gt disk memory. c.in-Err.ensures.holds gt (λ q. disk cc) (λ q. memory cc)

pub returns-in-Err-clause-ready : goal.returns-in-Err-clause-ready
returns-in-Err-clause-ready g c = λ disk memory. rw c.requests.invariant.ready.limits_are at (c.in-Err.ensures.ready (λ q. disk cc) (λ q. memory cc))

pub returns-in-Err-clause-tell : goal.returns-in-Err-clause-tell
returns-in-Err-clause-tell g c =
    let told = c.in-Err.ensures.tell in
    subst (λ (f : ℕ → ℕ). CountsTold c.args.line f (g.G.Ground.tell_faults c.turn-turned.new.ground) (c.in-Err.ending ≡ ending.Tell)) c.requests.invariant.tell_faults
    (record { later = told.later; rose = λ is. told.rose (ap (λ (e : Ending). Err e) is); same = λ other. told.same (λ said. other cc) })

pub returns-in-Err-clause-disk : goal.returns-in-Err-clause-disk
returns-in-Err-clause-disk g c =
    let disk = c.in-Err.ensures.disk in
    subst (λ (n : ℕ). Counts n (g.G.Ground.disk_faults c.turn-turned.new.ground) (c.in-Err.ending ≡ ending.Disk)) c.requests.invariant.disk_faults
    (record { later = disk.later; rose = λ is. disk.rose (ap (λ (e : Ending). Err e) is); same = λ other. disk.same (λ said. other cc) })

pub returns-in-Err-clause-source : goal.returns-in-Err-clause-source
returns-in-Err-clause-source g c =
    let source = c.in-Err.ensures.source in
    subst (λ (n : ℕ). Counts n (g.S.Source.faults c.turn-turned.new.source) (c.in-Err.ending ≡ ending.Source)) c.requests.invariant.source_faults
    (record { later = source.later; rose = λ is. source.rose (ap (λ (e : Ending). Err e) is); same = λ other. source.same (λ said. other cc) })

pub returns-in-Err-clause-stops : goal.returns-in-Err-clause-stops
returns-in-Err-clause-stops g c = λ gt st ct.
    let so_far = c.requests.invariant.so_far gt st ct in
    behind c.in-Err.ending c.args.limits.now _ _ so_far.0 _ _ _ (shows (g.G.Ground.state c.turn-turned.new.ground) c.turn-turned.new.store) so_far.1 so_far.2 (rw c.requests.invariant.ready.limits_are at (c.in-Err.ensures.stops gt st ct))

pub returns-in_default-clause-stops : goal.returns-in_default-clause-stops
returns-in_default-clause-stops g c = λ gt st ct. at_once c.args.limits.now _ _ (shows (g.G.Ground.state c.args.ground.now) c.args.store.now)

pub returns-in_default-vec-clause-stops : goal.returns-in_default-vec-clause-stops
returns-in_default-vec-clause-stops g c = λ gt st ct. at_once c.args.limits.now _ _ (shows (g.G.Ground.state c.args.ground.now) c.args.store.now)

pub returns-in_default-clause-moments : goal.returns-in_default-clause-moments
returns-in_default-clause-moments g c = λ gt st ct. passes_none (g.G.Ground.state c.args.ground.now) _

pub returns-in_default-vec-clause-moments : goal.returns-in_default-vec-clause-moments
returns-in_default-vec-clause-moments g c = λ gt st ct. passes_none (g.G.Ground.state c.args.ground.now) _
