use Rattle.std.proofs.Common.{◌≡◌, drop}
use Rattle.std.specs.List.{list_any}
use Rattle.arti_catalog.specs.Judged.{gets_too_many}
use Rattle.arti_catalog.proofs.judging_kept.any_gets_too_many.Given as goal

abbrev pub invariant-loop-id : goal.invariant-loop-id
invariant-loop-id l = list_any (gets_too_many l.named l.rows) (drop l.id-index l.ids) ≡ list_any (gets_too_many l.named l.rows) l.ids
