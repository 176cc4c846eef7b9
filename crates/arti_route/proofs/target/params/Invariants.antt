use Rattle.std.proofs.Common.{◌≡◌, drop}
use Rattle.std.specs.Prelude.{map}
use Rattle.arti_model.specs.Targets.{param_read, params_read}
use Rattle.arti_route.proofs.Steps.{with_read}
use Rattle.arti_route.proofs.target.params.Given as goal

abbrev pub invariant-loop-text : goal.invariant-loop-text
invariant-loop-text l = with_read param_read l.params (map (λ x. x.now) (drop l.text-index l.text-items)) ≡ params_read l.query
