-- What a query may ask of an item's row.
use Rattle.std.specs.Prelude.{List, map}
use Rattle.std.specs.Borrow.{Bor}
use Rattle.arti_rows.specs.declared.rows.FileRef.{FileRef}
use Rattle.arti_rows.specs.declared.rows.ItemRow.{ItemRow}
use Rattle.arti_model.specs.Store.{item_of_row}
use Rattle.arti_model.specs.Query.{Facts, facts_of}

-- what the row tells of its item
abbrev pub facts_of_row : ItemRow → Facts
facts_of_row row = facts_of (λ (f : FileRef). f.len) (item_of_row row)

-- the same of rows that are borrowed
abbrev pub facts_of_rows : List (Bor ItemRow) → List Facts
facts_of_rows rows = map (λ (r : Bor ItemRow). facts_of_row r.now) rows
