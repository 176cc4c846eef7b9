-- The bytes of a change (of this project). Numbers are unsigned but for moments, and the greatest byte goes first.
use Rattle.std.specs.Prelude.{◌≡◌, ◌≢◌, ℕ, ◌+◌, ◌*◌, ◌≤◌, List, [], ◌∷◌, length, Bool, true, Option, Some, IsUtf8, ℤ, is_some, unwrap_or}
use Rattle.std.specs.Int.{w16, w32, w64, cast_unsigned}
use Rattle.arti_rows.specs.Key.{Key}
use Rattle.arti_rows.specs.Names.{IsKey}
use Rattle.arti_rows.specs.Moments.{IsMoment}
use Rattle.arti_rows.specs.PropTexts.{property_cmp}
use Rattle.arti_rows.specs.Sizes.{most_content}
use Rattle.arti_rows.specs.declared.rows.Digests.{Digests}
use Rattle.arti_rows.specs.declared.rows.SomeDigests.{SomeDigests}
use Rattle.arti_rows.specs.declared.rows.FileRef.{FileRef}
use Rattle.arti_rows.specs.declared.rows.Property.{Property}
use Rattle.arti_rows.specs.declared.rows.Stat.{Stat}
use Rattle.arti_rows.specs.declared.rows.Given.{Given}
use Rattle.arti_rows.specs.declared.rows.ItemRow.{ItemRow}
use Rattle.arti_rows.specs.declared.rows.ArtifactRow.{ArtifactRow}
use Rattle.arti_rows.specs.declared.rows.DependencyRow.{DependencyRow}
use Rattle.arti_rows.specs.declared.rows.ModuleRow.{ModuleRow}
use Rattle.arti_rows.specs.declared.rows.PromotionRow.{PromotionRow}
use Rattle.arti_rows.specs.declared.rows.BuildRow.{BuildRow}
use Rattle.arti_rows.specs.declared.rows.Class.{Class}
use Rattle.arti_rows.specs.declared.rows.Class.TheVariants.{Local, Remote, Virtual}
use Rattle.arti_rows.specs.declared.rows.RepoDef.{RepoDef}
use Rattle.arti_rows.specs.declared.edits.BuildInfo.{BuildInfo}
use Rattle.arti_rows.specs.declared.edits.Edit.{Edit}
use Rattle.arti_rows.specs.declared.edits.Edit.TheVariants as edits
use Rattle.arti_rows.specs.declared.edits.Change.{Change}
use Rattle.arti_codec.specs.Format.{Format, ◌⨟◌, of_parts, where_holds, behind, number, bit, flag, run, listed, limited, optional}
use Rattle.arti_codec.specs.Rules.{is_build_name, is_property, ascends, are_prop_keys, is_definition}

-- at most 4,096 bytes of UTF-8 behind their number
unfoldable pub text : Format (List ℕ)
text = where_holds IsUtf8 (behind (where_holds (λ n. n ≤ 4096) (number w16)) length run)

-- milliseconds since 1970 as a signed number
unfoldable pub moment : Format ℤ
moment = where_holds IsMoment (of_parts (cast_unsigned w64) (number w64))

-- repository, path of the folder, name
unfoldable pub item_key : Format Key
item_key = where_holds IsKey (of_parts (λ k. (k.repo, (k.path, k.name))) (text ⨟ text ⨟ text))

unfoldable pub property : Format Property
property = where_holds (λ p. is_property p ≡ true) (of_parts (λ p. (p.key, p.value)) (text ⨟ text))

-- ascending and distinct pairs, at most so many
unfoldable pub properties : ℕ → Format (List Property)
properties most = where_holds (λ ps. ascends property_cmp ps ≡ true) (limited w16 most property)

-- MD5, SHA-1, SHA-256
unfoldable pub digests : Format Digests
digests = of_parts (λ d. (d.md5, (d.sha1, d.sha256))) (run 16 ⨟ run 20 ⨟ run 32)

-- a place in the contents file, a length, and the digests
unfoldable pub file_ref : Format FileRef
file_ref = of_parts (λ f. (f.place, (f.len, f.digests))) (number w64 ⨟ where_holds (λ n. n ≤ most_content) (number w64) ⨟ digests)

-- bits 0, 1 and 2 of a byte
unfoldable pub given : Format Given
given = record { keeps = λ g. Unit {0}; spell = λ g. (bit g.md5 + 2 * bit g.sha1 + 4 * bit g.sha256) ∷ [] }

-- which of the digests are there
abbrev pub which : SomeDigests → Given
which d = record { md5 = is_some d.md5; sha1 = is_some d.sha1; sha256 = is_some d.sha256 }

-- which digests are there, and these
unfoldable pub some_digests : Format SomeDigests
some_digests = behind given which (λ g. of_parts (λ d. (d.md5, (d.sha1, d.sha256))) (optional g.md5 (run 16) ⨟ optional g.sha1 (run 20) ⨟ optional g.sha256 (run 32)))

-- a flag, and behind a 1 the value
abbrev pub flagged : {A : Type 0} → Format A → Format (Option A)
flagged f = behind flag is_some (λ there. optional there f)

unfoldable pub stat : Format Stat
stat = of_parts (λ s. (s.downloads, (s.downloaded, s.downloaded_by))) (number w64 ⨟ moment ⨟ text)

-- when an item was made and changed, and by whom
abbrev pub stamps_of : ItemRow → ℤ × (List ℕ × (ℤ × (List ℕ × ℤ)))
stamps_of r = (r.created, (r.created_by, (r.modified, (r.modified_by, r.updated))))

unfoldable pub stamps : Format (ℤ × (List ℕ × (ℤ × (List ℕ × ℤ))))
stamps = moment ⨟ text ⨟ moment ⨟ text ⨟ moment

-- what an item holds
abbrev pub held_of : ItemRow → Given × (Option FileRef × (List Property × Option Stat))
held_of r = (r.given, (r.file, (r.props, r.stat)))

unfoldable pub held : Format (Given × (Option FileRef × (List Property × Option Stat)))
held = given ⨟ flagged file_ref ⨟ properties 1024 ⨟ flagged stat

unfoldable pub item_row : Format ItemRow
item_row = of_parts (λ r. (r.key, (stamps_of r, held_of r))) (item_key ⨟ stamps ⨟ held)

unfoldable pub promotion : Format PromotionRow
promotion = of_parts (λ p. (p.created, (p.created_by, (p.status, (p.repo, (p.comment, p.user)))))) (moment ⨟ text ⨟ text ⨟ text ⨟ text ⨟ text)

unfoldable pub artifact : Format ArtifactRow
artifact = of_parts (λ a. (a.name, (a.kind, a.digests))) (text ⨟ text ⨟ some_digests)

unfoldable pub dependency : Format DependencyRow
dependency = of_parts (λ d. (d.id, (d.kind, (d.scopes, d.digests)))) (text ⨟ text ⨟ limited w16 1024 text ⨟ some_digests)

unfoldable pub module_row : Format ModuleRow
module_row = of_parts (λ m. (m.id, (m.artifacts, m.dependencies))) (text ⨟ listed w32 artifact ⨟ listed w32 dependency)

-- a build's name or number
unfoldable pub build_name : Format (List ℕ)
build_name = where_holds (λ name. is_build_name name ≡ true) text

-- a build as it was put, of any length
unfoldable pub build_parts : Format BuildInfo
build_parts = of_parts (λ b. (b.name, (b.number, (b.started, (b.url, (b.props, (b.modules, b.document)))))))
    (build_name ⨟ build_name ⨟ moment ⨟ text ⨟ properties 8192 ⨟ listed w32 module_row ⨟ behind (number w32) length run)

-- a build as it was put, of at most 33,554,432 bytes
unfoldable pub build_info : Format BuildInfo
build_info = where_holds (λ b. length (build_parts.spell b) ≤ 33554432) build_parts

-- a build's row: what was put, and what the repository added
abbrev pub info_of : BuildRow → BuildInfo
info_of b = record { name = b.name; number = b.number; started = b.started; url = b.url; props = b.props; modules = b.modules; document = b.document }

abbrev pub added_of : BuildRow → ℤ × (List ℕ × (ℤ × (List ℕ × List PromotionRow)))
added_of b = (b.created, (b.created_by, (b.modified, (b.modified_by, b.promotions))))

unfoldable pub added : Format (ℤ × (List ℕ × (ℤ × (List ℕ × List PromotionRow))))
added = moment ⨟ text ⨟ moment ⨟ text ⨟ limited w32 1024 promotion

unfoldable pub build_row : Format BuildRow
build_row = of_parts (λ b. (info_of b, added_of b)) (build_info ⨟ added)

abbrev pub class_number : Class → ℕ
class_number Local = 0
class_number Remote = 1
class_number Virtual = 2

unfoldable pub class_byte : Format Class
class_byte = record { keeps = λ c. Unit {0}; spell = λ c. class_number c ∷ [] }

-- a text that isn't empty, or an empty one for none
unfoldable pub text_or_none : Format (Option (List ℕ))
text_or_none = where_holds (λ t. t ≢ Some []) (of_parts (λ t. unwrap_or t []) text)

unfoldable pub definition : Format RepoDef
definition = where_holds (λ d. is_definition d ≡ true) (of_parts (λ d. (d.key, (d.class, (d.url, (d.members, (d.default_to, (d.includes, d.excludes)))))))
    (text ⨟ class_byte ⨟ text ⨟ limited w16 256 text ⨟ text_or_none ⨟ text ⨟ text))

unfoldable pub prop_keys : Format (List (List ℕ))
prop_keys = where_holds (λ keys. are_prop_keys keys ≡ true) (listed w16 text)

-- the fields of the edits that have several
unfoldable pub file_fields : Format (Key × (Given × (FileRef × List Property)))
file_fields = item_key ⨟ given ⨟ file_ref ⨟ properties 1024

unfoldable pub set_fields : Format (Key × (Bool × List Property))
set_fields = item_key ⨟ flag ⨟ properties 1024

unfoldable pub drop_fields : Format (Key × (Bool × List (List ℕ)))
drop_fields = item_key ⨟ flag ⨟ prop_keys

unfoldable pub promote_fields : Format (List ℕ × (List ℕ × PromotionRow))
promote_fields = build_name ⨟ build_name ⨟ promotion

-- an edit's fields keep their rules
abbrev pub KeepsEdit : Edit → Type 0
KeepsEdit (edits.Define def) = definition.keeps def
KeepsEdit (edits.Folder key) = item_key.keeps key
KeepsEdit (edits.File key g file props) = file_fields.keeps (key, (g, (file, props)))
KeepsEdit (edits.Remove key) = item_key.keeps key
KeepsEdit (edits.Move from to) = (item_key ⨟ item_key).keeps (from, to)
KeepsEdit (edits.Copy from to) = (item_key ⨟ item_key).keeps (from, to)
KeepsEdit (edits.SetProps key deep props) = set_fields.keeps (key, (deep, props))
KeepsEdit (edits.DropProps key deep keys) = drop_fields.keeps (key, (deep, keys))
KeepsEdit (edits.Downloaded key) = item_key.keeps key
KeepsEdit (edits.Build info) = build_info.keeps info
KeepsEdit (edits.Unbuild name build_number) = (build_name ⨟ build_name).keeps (name, build_number)
KeepsEdit (edits.Promote name build_number row) = promote_fields.keeps (name, (build_number, row))
KeepsEdit (edits.Kept file) = file_ref.keeps file
KeepsEdit (edits.Item row) = item_row.keeps row
KeepsEdit (edits.Held row) = build_row.keeps row

-- a number from 1 to 15, and the fields
abbrev pub edit_bytes : Edit → List ℕ
edit_bytes (edits.Define def) = 1 ∷ definition.spell def
edit_bytes (edits.Folder key) = 2 ∷ item_key.spell key
edit_bytes (edits.File key g file props) = 3 ∷ file_fields.spell (key, (g, (file, props)))
edit_bytes (edits.Remove key) = 4 ∷ item_key.spell key
edit_bytes (edits.Move from to) = 5 ∷ (item_key ⨟ item_key).spell (from, to)
edit_bytes (edits.Copy from to) = 6 ∷ (item_key ⨟ item_key).spell (from, to)
edit_bytes (edits.SetProps key deep props) = 7 ∷ set_fields.spell (key, (deep, props))
edit_bytes (edits.DropProps key deep keys) = 8 ∷ drop_fields.spell (key, (deep, keys))
edit_bytes (edits.Downloaded key) = 9 ∷ item_key.spell key
edit_bytes (edits.Build info) = 10 ∷ build_info.spell info
edit_bytes (edits.Unbuild name build_number) = 11 ∷ (build_name ⨟ build_name).spell (name, build_number)
edit_bytes (edits.Promote name build_number row) = 12 ∷ promote_fields.spell (name, (build_number, row))
edit_bytes (edits.Kept file) = 13 ∷ file_ref.spell file
edit_bytes (edits.Item row) = 14 ∷ item_row.spell row
edit_bytes (edits.Held row) = 15 ∷ build_row.spell row

unfoldable pub edit : Format Edit
edit = record { keeps = KeepsEdit; spell = edit_bytes }

-- at least one edit
unfoldable pub edit_list : Format (List Edit)
edit_list = where_holds (λ es. 1 ≤ length es) (listed w32 edit)

-- a moment, a user and the edits
unfoldable pub change : Format Change
change = of_parts (λ c. (c.moment, (c.user, c.edits))) (moment ⨟ text ⨟ edit_list)

-- the change keeps the rules
abbrev pub HasBytes : Change → Type 0
HasBytes c = change.keeps c

-- these are the bytes of the change
abbrev pub ChangeBytes : List ℕ → Change → Type 0
ChangeBytes bytes c = HasBytes c × (bytes ≡ change.spell c)
