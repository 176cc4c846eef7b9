use Rattle.std.proofs.Common.{◌≡◌, ◌++◌, ℕ, List, subst}
use Rattle.std.specs.Prelude.{OnOk, IfErr}
use Rattle.arti_ground.specs.State.{Passes}
use Rattle.arti_service.specs.Cuts.{StopsTelling}
use Rattle.arti_service.specs.Moments.{Telling}
use Rattle.arti_service.proofs.Memory.{memory_text}
use Rattle.arti_service.proofs.telling.tell_memory.Goals as goal

pub returns-clause-told : goal.returns-clause-told
returns-clause-told g c = λ gt.
    subst (λ (l : List ℕ). OnOk c.tell.result ((g.G.Ground.state c.tell.new.ground).told c.args.line ≡ (g.G.Ground.state c.args.ground.now).told c.args.line ++ l)) memory_text (c.tell.ensures.told gt)

pub returns-clause-stops : goal.returns-clause-stops
returns-clause-stops g c = λ gt.
    subst (λ (l : List ℕ). IfErr c.tell.result (λ stop. StopsTelling stop l ((g.G.Ground.state c.args.ground.now).told c.args.line) ((g.G.Ground.state c.tell.new.ground).told c.args.line))) memory_text (c.tell.ensures.stops gt)

pub returns-clause-time : goal.returns-clause-time
returns-clause-time g c = λ gt.
    subst (λ (l : List ℕ). Passes (g.G.Ground.state c.args.ground.now) (g.G.Ground.state c.tell.new.ground) (Telling (g.G.Ground.state c.args.ground.now) c.args.line l)) memory_text (c.tell.ensures.time gt)
