-- What an edit of properties does to a row.
use Rattle.std.specs.Prelude.{◌≡◌, ℕ, ℤ, if◌then◌else◌, List, Option, option_map}
use Rattle.arti_rows.specs.declared.rows.ItemRow.{ItemRow}
use Rattle.arti_rows.specs.declared.rows.Property.{Property}
use Rattle.arti_tree.specs.Renames.{has}
use Rattle.arti_model.specs.Store.{item_of_row}
use Rattle.arti_model.specs.Edits.{props_set, props_dropped, with_props}
use Rattle.arti_catalog.specs.declared.props_edits.PropsEdit.{PropsEdit}
use Rattle.arti_catalog.specs.declared.props_edits.PropsEdit.TheVariants.{Set, Unset}
use Rattle.arti_catalog.specs.Held.{at, row_of_item}

abbrev pub changed_by : PropsEdit → List Property → List Property
changed_by (Set named) props = props_set named.now props
changed_by (Unset keys) props = props_dropped keys.now props

abbrev pub changed_row : ℤ → PropsEdit → ItemRow → ItemRow
changed_row moment edit row = row_of_item (with_props moment (changed_by edit) (item_of_row row))

-- the rows of these ids are changed, and no others
pub record AllChanged (ids : List ℕ) (f : ItemRow → ItemRow) (old new : List (Option ItemRow)) : Type 0 where
  pub each : (i : ℕ) → at new i ≡ (if has ids i then option_map f (at old i) else at old i)
