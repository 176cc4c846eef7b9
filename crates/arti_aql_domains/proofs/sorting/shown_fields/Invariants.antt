use Rattle.std.proofs.Common.{◌≡◌, ◌++◌, Bool, map, drop}
use Rattle.std.specs.Prelude.{filter}
use Rattle.arti_query_model.specs.Table.{Entry}
use Rattle.arti_query_model.specs.Typed.{is_shown}
use Rattle.arti_aql_domains.specs.Entries.{entry_view}
use Rattle.arti_aql_domains.proofs.sorting.shown_fields.Given as goal

abbrev pub invariant-loop-row : goal.invariant-loop-row
invariant-loop-row l =
    let shows : Entry → Bool = λ e. is_shown l.root l.includes e.name in
    filter shows (map entry_view l.rows) ≡ map entry_view l.shown.items ++ filter shows (map entry_view (drop l.row-index l.rows))
