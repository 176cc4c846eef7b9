use Rattle.std.proofs.Common.{◌≡◌, map, drop}
use Rattle.arti_query_model.specs.Table.{named_entry}
use Rattle.arti_aql_domains.specs.Entries.{entry_view}
use Rattle.arti_aql_domains.proofs.table.named_field.Given as goal

abbrev pub invariant-loop-field : goal.invariant-loop-field
invariant-loop-field l = named_entry l.name (map entry_view (drop l.field-index l.fields)) ≡ named_entry l.name (map entry_view l.fields)
