use Rattle.std.proofs.Common.{◌≡◌, ◌++◌, drop}
use Rattle.arti_repos.specs.Walks.{places_as}
use Rattle.arti_repos.specs.Visits.{values}
use Rattle.arti_repos.proofs.walking.add_places.Given as goal

abbrev pub invariant-loop-def : goal.invariant-loop-def
invariant-loop-def l = l.places.items ++ places_as l.class l.kind (values (drop l.def-index l.found)) ≡ l.fn.places.items ++ places_as l.class l.kind (values l.found)
