use Rattle.std.proofs.Common.{◌≡◌, drop}
use Rattle.arti_query_model.specs.Outcome.{each}
use Rattle.arti_query_model.specs.Paths as paths
use Rattle.arti_aql_domains.specs.Behind.{put_before}
use Rattle.arti_aql_domains.proofs.sorting.type_shown.Given as goal

abbrev pub invariant-loop-text : goal.invariant-loop-text
invariant-loop-text l = each (paths.shown_of l.root) l.includes ≡ put_before l.shown.items (each (paths.shown_of l.root) (drop l.text-index l.includes))
