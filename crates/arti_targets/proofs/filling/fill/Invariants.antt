use Rattle.std.proofs.Common.{◌≡◌, take, string_bytes}
use Rattle.arti_targets.specs.Targets.{filled}
use Rattle.arti_targets.proofs.filling.fill.Given as goal

abbrev pub invariant-parts : goal.invariant-parts
invariant-parts l = string_bytes l.out ≡ filled l.text l.spans (take l.part-index l.parts)
