-- Reading the rows and edits of a change from the front.
use Rattle.std.specs.Prelude.{ℕ, ◌-◌, ◌/◌, ◌%◌, List, [], ◌∷◌, length, Bool, Option, Some, None, ℤ, ◌&&◌, is_none, nat_eq, nat_lt, nat_le, ◌==◌, if◌then◌else◌}
use Rattle.std.specs.Int.{w16, w32, w64, cast_signed}
use Rattle.std.specs.Str.{is_utf8}
use Rattle.std.specs.Cmp.Lexicographic.{pointwise}
use Rattle.arti_rows.specs.Key.{Key, whole_of, path_of, name_of}
use Rattle.arti_rows.specs.Moments.{is_moment}
use Rattle.arti_rows.specs.Names.{key_fault}
use Rattle.arti_rows.specs.PropTexts.{property_cmp}
use Rattle.arti_rows.specs.Sizes.{most_content}
use Rattle.arti_rows.specs.declared.rows.Digests.{Digests}
use Rattle.arti_rows.specs.declared.rows.SomeDigests.{SomeDigests}
use Rattle.arti_rows.specs.declared.rows.FileRef.{FileRef}
use Rattle.arti_rows.specs.declared.rows.Property.{Property}
use Rattle.arti_rows.specs.declared.rows.Stat.{Stat}
use Rattle.arti_rows.specs.declared.rows.Given.{Given}
use Rattle.arti_rows.specs.declared.rows.ItemRow.{ItemRow}
use Rattle.arti_rows.specs.declared.rows.ArtifactRow.{ArtifactRow}
use Rattle.arti_rows.specs.declared.rows.DependencyRow.{DependencyRow}
use Rattle.arti_rows.specs.declared.rows.ModuleRow.{ModuleRow}
use Rattle.arti_rows.specs.declared.rows.PromotionRow.{PromotionRow}
use Rattle.arti_rows.specs.declared.rows.BuildRow.{BuildRow}
use Rattle.arti_rows.specs.declared.rows.Class.{Class}
use Rattle.arti_rows.specs.declared.rows.Class.TheVariants.{Local, Remote, Virtual}
use Rattle.arti_rows.specs.declared.rows.RepoDef.{RepoDef}
use Rattle.arti_rows.specs.declared.edits.BuildInfo.{BuildInfo}
use Rattle.arti_rows.specs.declared.edits.Edit.{Edit}
use Rattle.arti_rows.specs.declared.edits.Edit.TheVariants as edits
use Rattle.arti_rows.specs.declared.edits.Change.{Change}
use Rattle.arti_codec.specs.Rules.{is_build_name, is_property, ascends, are_prop_keys, is_definition}
use Rattle.arti_codec.specs.Reading.{◌>>=◌, ◌▷◌, made, tested, told_by, run_at, byte_at, flag_at, number_at, listed_at, limited_at, optional_at}

unfoldable pub text_at : List ℕ → Option (List ℕ × List ℕ)
text_at = tested is_utf8 (told_by (tested (λ n. nat_le n 4096) (number_at w16)) run_at)

unfoldable pub moment_at : List ℕ → Option (ℤ × List ℕ)
moment_at = tested is_moment (made (cast_signed w64) (number_at w64))

-- whether it keeps the rules of keys
unfoldable pub is_key : Key → Bool
is_key k = is_none (key_fault k.repo (whole_of k)) && pointwise nat_eq (path_of (whole_of k)) k.path && pointwise nat_eq (name_of (whole_of k)) k.name

unfoldable pub item_key_at : List ℕ → Option (Key × List ℕ)
item_key_at = tested is_key (made (λ t. record { repo = t.0; path = t.1.0; name = t.1.1 }) (text_at ▷ text_at ▷ text_at))

unfoldable pub property_at : List ℕ → Option (Property × List ℕ)
property_at = tested is_property (made (λ t. record { key = t.0; value = t.1 }) (text_at ▷ text_at))

unfoldable pub properties_at : ℕ → List ℕ → Option (List Property × List ℕ)
properties_at most = tested (ascends property_cmp) (limited_at w16 most property_at)

unfoldable pub digests_at : List ℕ → Option (Digests × List ℕ)
digests_at = made (λ t. record { md5 = t.0; sha1 = t.1.0; sha256 = t.1.1 }) (run_at 16 ▷ run_at 20 ▷ run_at 32)

unfoldable pub file_ref_at : List ℕ → Option (FileRef × List ℕ)
file_ref_at = made (λ t. record { place = t.0; len = t.1.0; digests = t.1.1 }) (number_at w64 ▷ tested (λ n. nat_le n most_content) (number_at w64) ▷ digests_at)

abbrev pub given_of : ℕ → Given
given_of n = record { md5 = n % 2 == 1; sha1 = n / 2 % 2 == 1; sha256 = n / 4 == 1 }

unfoldable pub given_at : List ℕ → Option (Given × List ℕ)
given_at = made given_of (tested (λ b. nat_lt b 8) byte_at)

unfoldable pub some_digests_at : List ℕ → Option (SomeDigests × List ℕ)
some_digests_at = told_by given_at (λ g. made (λ t. record { md5 = t.0; sha1 = t.1.0; sha256 = t.1.1 }) (optional_at g.md5 (run_at 16) ▷ optional_at g.sha1 (run_at 20) ▷ optional_at g.sha256 (run_at 32)))

abbrev pub flagged_at : {A : Type 0} → (List ℕ → Option (A × List ℕ)) → List ℕ → Option (Option A × List ℕ)
flagged_at read = told_by flag_at (λ there. optional_at there read)

unfoldable pub stat_at : List ℕ → Option (Stat × List ℕ)
stat_at = made (λ t. record { downloads = t.0; downloaded = t.1.0; downloaded_by = t.1.1 }) (number_at w64 ▷ moment_at ▷ text_at)

unfoldable pub stamps_at : List ℕ → Option ((ℤ × (List ℕ × (ℤ × (List ℕ × ℤ)))) × List ℕ)
stamps_at = moment_at ▷ text_at ▷ moment_at ▷ text_at ▷ moment_at

unfoldable pub held_at : List ℕ → Option ((Given × (Option FileRef × (List Property × Option Stat))) × List ℕ)
held_at = given_at ▷ flagged_at file_ref_at ▷ properties_at 1024 ▷ flagged_at stat_at

-- the row of its key, its stamps and what it holds
abbrev pub item_row_of : Key × ((ℤ × (List ℕ × (ℤ × (List ℕ × ℤ)))) × (Given × (Option FileRef × (List Property × Option Stat)))) → ItemRow
item_row_of t = record { key = t.0; created = t.1.0.0; created_by = t.1.0.1.0; modified = t.1.0.1.1.0; modified_by = t.1.0.1.1.1.0; updated = t.1.0.1.1.1.1; given = t.1.1.0; file = t.1.1.1.0; props = t.1.1.1.1.0; stat = t.1.1.1.1.1 }

unfoldable pub item_row_at : List ℕ → Option (ItemRow × List ℕ)
item_row_at = made item_row_of (item_key_at ▷ stamps_at ▷ held_at)

unfoldable pub promotion_at : List ℕ → Option (PromotionRow × List ℕ)
promotion_at =
    made (λ t. record { created = t.0; created_by = t.1.0; status = t.1.1.0; repo = t.1.1.1.0; comment = t.1.1.1.1.0; user = t.1.1.1.1.1 })
    (moment_at ▷ text_at ▷ text_at ▷ text_at ▷ text_at ▷ text_at)

unfoldable pub artifact_at : List ℕ → Option (ArtifactRow × List ℕ)
artifact_at = made (λ t. record { name = t.0; kind = t.1.0; digests = t.1.1 }) (text_at ▷ text_at ▷ some_digests_at)

unfoldable pub dependency_at : List ℕ → Option (DependencyRow × List ℕ)
dependency_at = made (λ t. record { id = t.0; kind = t.1.0; scopes = t.1.1.0; digests = t.1.1.1 }) (text_at ▷ text_at ▷ limited_at w16 1024 text_at ▷ some_digests_at)

unfoldable pub module_row_at : List ℕ → Option (ModuleRow × List ℕ)
module_row_at = made (λ t. record { id = t.0; artifacts = t.1.0; dependencies = t.1.1 }) (text_at ▷ listed_at w32 artifact_at ▷ listed_at w32 dependency_at)

unfoldable pub build_name_at : List ℕ → Option (List ℕ × List ℕ)
build_name_at = tested is_build_name text_at

-- what stands behind a build's texts
unfoldable pub body_at : List ℕ → Option ((List Property × (List ModuleRow × List ℕ)) × List ℕ)
body_at = properties_at 8192 ▷ listed_at w32 module_row_at ▷ told_by (number_at w32) run_at

unfoldable pub build_parts_at : List ℕ → Option (BuildInfo × List ℕ)
build_parts_at =
    made (λ t. record { name = t.0; number = t.1.0; started = t.1.1.0; url = t.1.1.1.0; props = t.1.1.1.1.0; modules = t.1.1.1.1.1.0; document = t.1.1.1.1.1.1 })
    (build_name_at ▷ build_name_at ▷ moment_at ▷ text_at ▷ body_at)

unfoldable pub build_info_at : List ℕ → Option (BuildInfo × List ℕ)
build_info_at bytes = build_parts_at bytes >>= λ x. if nat_le (length bytes - length x.1) 33554432 then Some x else None

unfoldable pub added_at : List ℕ → Option ((ℤ × (List ℕ × (ℤ × (List ℕ × List PromotionRow)))) × List ℕ)
added_at = moment_at ▷ text_at ▷ moment_at ▷ text_at ▷ limited_at w32 1024 promotion_at

-- the row of a build that was put, with what the repository added
abbrev pub build_row_of : BuildInfo × (ℤ × (List ℕ × (ℤ × (List ℕ × List PromotionRow)))) → BuildRow
build_row_of t = record { name = t.0.name; number = t.0.number; started = t.0.started; url = t.0.url; created = t.1.0; created_by = t.1.1.0; modified = t.1.1.1.0; modified_by = t.1.1.1.1.0; props = t.0.props; modules = t.0.modules; promotions = t.1.1.1.1.1; document = t.0.document }

unfoldable pub build_row_at : List ℕ → Option (BuildRow × List ℕ)
build_row_at = made build_row_of (build_info_at ▷ added_at)

abbrev pub class_of : ℕ → Class
class_of n = if n == 0 then Local else (if n == 1 then Remote else Virtual)

unfoldable pub class_at : List ℕ → Option (Class × List ℕ)
class_at = made class_of (tested (λ b. nat_lt b 3) byte_at)

abbrev pub none_if_empty : List ℕ → Option (List ℕ)
none_if_empty [] = None
none_if_empty (b ∷ bytes) = Some (b ∷ bytes)

unfoldable pub text_or_none_at : List ℕ → Option (Option (List ℕ) × List ℕ)
text_or_none_at = made none_if_empty text_at

-- what stands behind a definition's members
unfoldable pub patterns_at : List ℕ → Option ((Option (List ℕ) × (List ℕ × List ℕ)) × List ℕ)
patterns_at = text_or_none_at ▷ text_at ▷ text_at

-- a definition, whatever its rules
unfoldable pub definition_parts_at : List ℕ → Option (RepoDef × List ℕ)
definition_parts_at =
    made (λ t. record { key = t.0; class = t.1.0; url = t.1.1.0; members = t.1.1.1.0; default_to = t.1.1.1.1.0; includes = t.1.1.1.1.1.0; excludes = t.1.1.1.1.1.1 })
    (text_at ▷ class_at ▷ text_at ▷ limited_at w16 256 text_at ▷ patterns_at)

unfoldable pub definition_at : List ℕ → Option (RepoDef × List ℕ)
definition_at = tested is_definition definition_parts_at

unfoldable pub prop_keys_at : List ℕ → Option (List (List ℕ) × List ℕ)
prop_keys_at = tested are_prop_keys (listed_at w16 text_at)

unfoldable pub file_fields_at : List ℕ → Option ((Key × (Given × (FileRef × List Property))) × List ℕ)
file_fields_at = item_key_at ▷ given_at ▷ file_ref_at ▷ properties_at 1024

unfoldable pub set_fields_at : List ℕ → Option ((Key × (Bool × List Property)) × List ℕ)
set_fields_at = item_key_at ▷ flag_at ▷ properties_at 1024

unfoldable pub drop_fields_at : List ℕ → Option ((Key × (Bool × List (List ℕ))) × List ℕ)
drop_fields_at = item_key_at ▷ flag_at ▷ prop_keys_at

unfoldable pub promote_fields_at : List ℕ → Option ((List ℕ × (List ℕ × PromotionRow)) × List ℕ)
promote_fields_at = build_name_at ▷ build_name_at ▷ promotion_at

-- the fields of the edit with that number
unfoldable pub fields_at : ℕ → List ℕ → Option (Edit × List ℕ)
fields_at tag bytes =
    if tag == 1 then made (λ def. edits.Define def) definition_at bytes else (
    if tag == 2 then made (λ key. edits.Folder key) item_key_at bytes else (
    if tag == 3 then made (λ t. edits.File t.0 t.1.0 t.1.1.0 t.1.1.1) file_fields_at bytes else (
    if tag == 4 then made (λ key. edits.Remove key) item_key_at bytes else (
    if tag == 5 then made (λ t. edits.Move t.0 t.1) (item_key_at ▷ item_key_at) bytes else (
    if tag == 6 then made (λ t. edits.Copy t.0 t.1) (item_key_at ▷ item_key_at) bytes else (
    if tag == 7 then made (λ t. edits.SetProps t.0 t.1.0 t.1.1) set_fields_at bytes else (
    if tag == 8 then made (λ t. edits.DropProps t.0 t.1.0 t.1.1) drop_fields_at bytes else (
    if tag == 9 then made (λ key. edits.Downloaded key) item_key_at bytes else (
    if tag == 10 then made (λ info. edits.Build info) build_info_at bytes else (
    if tag == 11 then made (λ t. edits.Unbuild t.0 t.1) (build_name_at ▷ build_name_at) bytes else (
    if tag == 12 then made (λ t. edits.Promote t.0 t.1.0 t.1.1) promote_fields_at bytes else (
    if tag == 13 then made (λ file. edits.Kept file) file_ref_at bytes else (
    if tag == 14 then made (λ row. edits.Item row) item_row_at bytes else (
    if tag == 15 then made (λ row. edits.Held row) build_row_at bytes else None
    ))))))))))))))

unfoldable pub edit_at : List ℕ → Option (Edit × List ℕ)
edit_at = told_by byte_at fields_at

unfoldable pub edit_list_at : List ℕ → Option (List Edit × List ℕ)
edit_list_at = tested (λ es. nat_le 1 (length es)) (listed_at w32 edit_at)

unfoldable pub change_at : List ℕ → Option (Change × List ℕ)
change_at = made (λ t. record { moment = t.0; user = t.1.0; edits = t.1.1 }) (moment_at ▷ text_at ▷ edit_list_at)
