-- Fields that rows may be sorted by.
use Rattle.std.specs.Prelude.{ℕ, Bool, if◌then◌else◌, List, filter, Result, Ok, Err}
use Rattle.arti_query_model.specs.declared.fields.Rel.{Rel}
use Rattle.arti_query_model.specs.declared.fields.FieldId.{FieldId}
use Rattle.arti_query_model.specs.declared.fault.TypeFault.{TypeFault}
use Rattle.arti_query_model.specs.declared.fault.TypeFault.TheVariants.{SortNotShown}
use Rattle.arti_query_model.specs.Outcome.{◌>>=◌, or_fault}
use Rattle.arti_query_model.specs.Table.{Entry, fields, named_entry}
use Rattle.arti_query_model.specs.Typed.{is_shown, is_ordered}

-- the root fields that are shown
abbrev pub shown_entries : Rel → List (List ℕ) → List Entry
shown_entries root includes = filter (λ e. is_shown root includes e.name) (fields root)

-- a field of these that has an order
abbrev pub sorted_among : List Entry → Bool → List ℕ → Result (FieldId × Bool) TypeFault
sorted_among entries descending name = do
  entry ← or_fault (SortNotShown name) (named_entry name entries)
  if is_ordered entry.type then Ok (entry.field, descending) else Err (SortNotShown name)
