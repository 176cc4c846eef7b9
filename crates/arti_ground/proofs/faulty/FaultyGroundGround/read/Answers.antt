use Rattle.std.proofs.Common.{◌≡◌, ℕ, ap, ◌∙◌}
use Rattle.arti_ground.specs.Record.{Faulty}
use Rattle.arti_ground.proofs.faulty.FaultyGroundGround.read.Goals as goal

pub returns-clause-tell_faults : goal.returns-clause-tell_faults
returns-clause-tell_faults c = c.read.ensures.tell_faults ∙ ap {B = ℕ → ℕ} (λ (f : Faulty) (line : ℕ). f.inner.tell_faults) c.self.view_is
