-- What the rows of the table stand for.
use Rattle.std.specs.Prelude.{List, ℕ}
use Rattle.std.specs.Borrow.{Bor}
use Rattle.arti_query_model.specs.declared.fields.FieldType.{FieldType}
use Rattle.arti_query_model.specs.declared.fields.FieldId.{FieldId}
use Rattle.arti_query_model.specs.Table.{Entry}

abbrev pub entry_view : Bor (List ℕ) × FieldType × FieldId → Entry
entry_view f = record { name = f.0.now; type = f.1; field = f.2 }

-- what a field is, without its name
abbrev pub meaning : Entry → FieldType × FieldId
meaning e = (e.type, e.field)
