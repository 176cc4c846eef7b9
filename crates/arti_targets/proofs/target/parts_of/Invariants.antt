use Rattle.std.proofs.Common.{◌≡◌, ◌++◌, drop}
use Rattle.arti_targets.specs.Targets.{parts_from}
use Rattle.arti_targets.proofs.target.parts_of.Given as goal

abbrev pub invariant-chars : goal.invariant-chars
invariant-chars l = l.parts.items ++ parts_from l.taken (drop l.at l.text) ≡ parts_from 0 l.text
