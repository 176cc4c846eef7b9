-- Contents that are found by their digests.
use Rattle.std.specs.Prelude.{ℕ, List, [], ◌∷◌, Option, Some, None, if◌then◌else◌}
use Rattle.std.specs.Option.{option_or}
use Rattle.arti_rows.specs.declared.rows.Digests.{Digests}
use Rattle.arti_rows.specs.declared.rows.FileRef.{FileRef}
use Rattle.arti_rows.specs.declared.rows.ItemRow.{ItemRow}
use Rattle.arti_rows.specs.declared.rows.SomeDigests.{SomeDigests}
use Rattle.arti_model.specs.Deploys.{has_digests}
use Rattle.arti_catalog.specs.Held.{row_at_id}

-- those that were recorded of a content
abbrev pub digests_of : FileRef → Digests
digests_of file = file.digests

-- a content, where it has the digests
abbrev pub if_wanted : SomeDigests → Option FileRef → Option FileRef
if_wanted wanted None = None
if_wanted wanted (Some file) = if has_digests wanted file.digests then Some file else None

-- the first content that has them, in the order of the ids
abbrev pub first_with : SomeDigests → List (Option ItemRow) → List ℕ → Option FileRef
first_with wanted rows [] = None
first_with wanted rows (id ∷ ids) = option_or (if_wanted wanted (row_at_id rows id).file) (first_with wanted rows ids)
