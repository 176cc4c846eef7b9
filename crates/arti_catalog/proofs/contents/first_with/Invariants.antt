use Rattle.std.proofs.Common.{◌≡◌, drop}
use Rattle.arti_catalog.specs.Contents.{first_with}
use Rattle.arti_catalog.proofs.contents.first_with.Given as goal

abbrev pub invariant-loop-id : goal.invariant-loop-id
invariant-loop-id l = first_with l.wanted l.rows (drop l.id-index l.ids) ≡ first_with l.wanted l.rows l.ids
