use Rattle.std.proofs.Common.{◌≡◌, ◌<◌, ◌++◌, ℕ, List, length}
use Rattle.arti_ground.specs.State.{Passes}
use Rattle.arti_model.specs.Requests as model
use Rattle.arti_model.specs.Run.{Recovers}
use Rattle.arti_model.specs.Stock.{Stock}
use Rattle.arti_store.specs.Store.{HoldsStore, shows}
use Rattle.arti_wire.specs.declared.wire.Phase.TheVariants.{Between}
use Rattle.arti_service.specs.Talk.{IsAnswered}
use Rattle.arti_service.specs.Stocks.{IsReady}
use Rattle.arti_service.specs.Moments.{AtMoment}
use Rattle.arti_service.proofs.Stops.{SoFar}
use Rattle.arti_service.proofs.conversation.converse.Given as goal

abbrev pub invariant-requests : goal.invariant-requests
invariant-requests g l =
    let state = g.G.Ground.state in
    record {
      phase : l.wire.phase ≡ Between;
      room : 0 < length l.buf.items;
      ready : IsReady l.limits l.store;
      holds : g.G.Ground.tells → HoldsStore (state l.ground) l.store;
      talk : g.G.Ground.tells → g.S.Source.tells → g.C.Clock.tells → (ending : model.Ending) (bytes : List ℕ) (after : Stock)
          → IsAnswered l.limits l.most (g.C.Clock.moments l.clock) (shows (state l.ground) l.store) (l.wire.ahead ++ g.S.Source.left l.source) ending bytes after
          → (all : List ℕ) × IsAnswered l.limits l.limits.requests (g.C.Clock.moments l.fn.clock) (shows (state l.fn.ground) l.fn.store) (g.S.Source.left l.fn.source) ending all after
          × ((state l.ground).told l.line ++ bytes ≡ (state l.fn.ground).told l.line ++ all);
      so_far : g.G.Ground.tells → g.S.Source.tells → g.C.Clock.tells
          → SoFar l.limits (record { most = l.limits.requests; moments = g.C.Clock.moments l.fn.clock; stock = shows (state l.fn.ground) l.fn.store; input = g.S.Source.left l.fn.source }) ((state l.fn.ground).told l.line)
          (record { most = l.most; moments = g.C.Clock.moments l.clock; stock = shows (state l.ground) l.store; input = l.wire.ahead ++ g.S.Source.left l.source }) ((state l.ground).told l.line);
      moments : g.G.Ground.tells → g.S.Source.tells → g.C.Clock.tells
          → Passes (state l.fn.ground) (state l.ground) (AtMoment l.limits l.line (state l.fn.ground).told
          (Recovers l.limits l.limits.requests (g.C.Clock.moments l.fn.clock) (shows (state l.fn.ground) l.fn.store) (g.S.Source.left l.fn.source)));
      tell_faults : g.G.Ground.tell_faults l.ground ≡ g.G.Ground.tell_faults l.fn.ground;
      disk_faults : g.G.Ground.disk_faults l.ground ≡ g.G.Ground.disk_faults l.fn.ground;
      source_faults : g.S.Source.faults l.source ≡ g.S.Source.faults l.fn.source;
    }

abbrev pub decreases-requests : goal.decreases-requests
decreases-requests g l = l.most
