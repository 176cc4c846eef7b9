use Rattle.std.proofs.Common.{length}
use denote.Shadow.{shadow}
use denote.Text.{Utf8}
use Rattle.arti_aql_domains.proofs.Walks.{Walks}
use Rattle.arti_aql_domains.proofs.paths.walk.Given as goal

abbrev pub invariant-loop-name : goal.invariant-loop-name
invariant-loop-name l = Walks l.fn.root l.domain l.text l.rest l.path.items × shadow (Utf8 l.rest)

abbrev pub decreases-loop-name : goal.decreases-loop-name
decreases-loop-name l = length l.rest
