use Rattle.std.proofs.Common.{◌≡◌, drop}
use Rattle.arti_model.specs.Targets.{param}
use Rattle.arti_route.proofs.queries.param.Given as goal

abbrev pub invariant-loop-param : goal.invariant-loop-param
invariant-loop-param l = param (drop l.param-index l.params) l.name ≡ param l.params l.name
