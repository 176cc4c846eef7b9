-- What a row has in its fields.
use Rattle.std.specs.Prelude.{ℕ, ◌+◌, pos, Bool, if◌then◌else◌, List, [], length, Option, Some, None}
use Rattle.hex.specs.Hex.{encode_lower}
use Rattle.arti_rows.specs.Key.{Key, whole_of, fronts}
use Rattle.arti_rows.specs.declared.rows.FileRef.{FileRef}
use Rattle.arti_rows.specs.declared.rows.Property.{Property}
use Rattle.arti_rows.specs.declared.rows.ItemRow.{ItemRow}
use Rattle.arti_rows.specs.declared.rows.BuildRow.{BuildRow}
use Rattle.arti_query_model.specs.declared.fields.Rel.{Rel}
use Rattle.arti_query_model.specs.declared.fields.FieldId.{FieldId}
use Rattle.arti_query_model.specs.declared.fields.FieldId.TheVariants as field
use Rattle.arti_query_model.specs.declared.tests.ItemKind.TheVariants.{File, Folder}
use Rattle.arti_query_model.specs.Values.{Value, Absent, Words, Number, Date, Kind}
use Rattle.arti_query_model.specs.World.{World}
use Rattle.arti_aql_domains.specs.declared.held.Row.{Row}
use Rattle.arti_aql_domains.specs.declared.held.Row.TheVariants.{Item, Build}
use Rattle.arti_aql_domains.specs.declared.held.Held.{Held}
use Rattle.arti_aql_domains.specs.declared.held.Held.TheVariants as held

-- ---- items

-- so many segments have path and name joined
abbrev pub segments : (path name : List ℕ) → ℕ
segments path name = length (fronts (whole_of (record { repo = []; path = path; name = name }))) + 1

abbrev pub depth : Key → ℕ
depth k = segments k.path k.name

-- a folder has none
abbrev pub of_file : (FileRef → Value) → Option FileRef → Value
of_file value None = Absent
of_file value (Some file) = value file

abbrev pub kind_of_item : Option FileRef → Value
kind_of_item None = Kind Folder
kind_of_item (Some file) = Kind File

abbrev pub size : Option FileRef → Value
size file = of_file (λ f. Number (pos f.len)) file

abbrev pub md5 : Option FileRef → Value
md5 file = of_file (λ f. Words (encode_lower f.digests.md5)) file

abbrev pub sha1 : Option FileRef → Value
sha1 file = of_file (λ f. Words (encode_lower f.digests.sha1)) file

abbrev pub sha256 : Option FileRef → Value
sha256 file = of_file (λ f. Words (encode_lower f.digests.sha256)) file

-- a digest that the client gave
abbrev pub if_given : Bool → Value → Value
if_given given value = if given then value else Absent

-- the value of a field of an item; a list, which isn't tested, counts as none
abbrev pub item_value : ItemRow → FieldId → Value
item_value row field.ItemRepo = Words row.key.repo
item_value row field.ItemPath = Words row.key.path
item_value row field.ItemName = Words row.key.name
item_value row field.ItemType = kind_of_item row.file
item_value row field.ItemSize = size row.file
item_value row field.ItemCreated = Date row.created
item_value row field.ItemCreatedBy = Words row.created_by
item_value row field.ItemModified = Date row.modified
item_value row field.ItemModifiedBy = Words row.modified_by
item_value row field.ItemUpdated = Date row.updated
item_value row field.ItemDepth = Number (pos (depth row.key))
item_value row field.ItemOriginalMd5 = if_given row.given.md5 (md5 row.file)
item_value row field.ItemOriginalSha1 = if_given row.given.sha1 (sha1 row.file)
item_value row field.ItemActualMd5 = md5 row.file
item_value row field.ItemActualSha1 = sha1 row.file
item_value row field.ItemSha256 = sha256 row.file
item_value row other = Absent

-- ---- builds

abbrev pub build_value : BuildRow → FieldId → Value
build_value row field.BuildName = Words row.name
build_value row field.BuildNumber = Words row.number
build_value row field.BuildStarted = Date row.started
build_value row field.BuildUrl = Words row.url
build_value row field.BuildCreated = Date row.created
build_value row field.BuildCreatedBy = Words row.created_by
build_value row field.BuildModified = Date row.modified
build_value row field.BuildModifiedBy = Words row.modified_by
build_value row other = Absent

-- ---- rows

abbrev pub row_value : Row → FieldId → Value
row_value (Item row) f = item_value row.now f
row_value (Build row) f = build_value row.now f

abbrev pub row_properties : Row → List Property
row_properties (Item row) = row.now.props
row_properties (Build row) = row.now.props

-- the rows with these related to them
abbrev pub row_world : (Row → Rel → List Row) → World Row
row_world related = record { value = row_value; properties = row_properties; related = related }

-- what a borrowed value stands for
abbrev pub held_view : Held → Value
held_view held.Absent = Absent
held_view (held.Words words) = Words words.now
held_view (held.Md5 digest) = Words (encode_lower digest.now)
held_view (held.Sha1 digest) = Words (encode_lower digest.now)
held_view (held.Sha256 digest) = Words (encode_lower digest.now)
held_view (held.Number n) = Number n
held_view (held.Date date) = Date date
held_view held.File = Kind File
held_view held.Folder = Kind Folder
