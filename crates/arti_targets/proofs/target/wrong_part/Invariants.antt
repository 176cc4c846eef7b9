use Rattle.std.proofs.Common.{◌≡◌, drop}
use Rattle.arti_targets.specs.Targets.{wrong_part}
use Rattle.arti_targets.proofs.target.wrong_part.Given as goal

abbrev pub invariant-parts : goal.invariant-parts
invariant-parts l = wrong_part l.groups (drop l.part-index l.parts) ≡ wrong_part l.groups l.parts
