use Rattle.std.proofs.Common.{◌≡◌, map, drop}
use Rattle.arti_query_model.specs.Outcome.{each}
use Rattle.arti_aql_domains.specs.Entries.{entry_view}
use Rattle.arti_aql_domains.specs.Sortable.{sorted_among}
use Rattle.arti_aql_domains.specs.Behind.{put_before}
use Rattle.arti_aql_domains.proofs.sorting.type_fields.Given as goal

abbrev pub invariant-loop-name : goal.invariant-loop-name
invariant-loop-name l =
    let one = sorted_among (map entry_view l.shown) l.descending in
    each one l.names ≡ put_before l.fields.items (each one (drop l.name-index l.names))
