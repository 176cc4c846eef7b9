-- What the fields of a deploy ask (after the REST API of JFrog Artifactory): the digests that its content has, and whether the content is to
-- be found by them.
use Rattle.std.specs.Prelude.{ℕ, Bool, true, false, not, ◌&&◌, nat_eq, if◌then◌else◌, List, codes, Option, Some, None, is_some, is_none, option_map, option_and_then}
use Rattle.std.specs.Result.{result_ok}
use Rattle.std.specs.List.{find}
use Rattle.std.specs.Str.{str_eq_ignore_ascii_case}
use Rattle.std.specs.Cmp.Lexicographic.{pointwise}
use Rattle.hex.specs.Hex.{decode_sized}
use Rattle.arti_rows.specs.declared.rows.Digests.{Digests}
use Rattle.arti_rows.specs.declared.rows.Given.{Given}
use Rattle.arti_rows.specs.declared.rows.SomeDigests.{SomeDigests}
use Rattle.arti_model.specs.Requests.{FieldText}
use Rattle.arti_model.specs.Store.{Item}

-- the value of the first field of that name; names are compared without ASCII case
abbrev pub first_value : List FieldText → List ℕ → Option (List ℕ)
first_value fields name = option_map (λ (f : FieldText). f.1) (find (λ (f : FieldText). str_eq_ignore_ascii_case f.0 name) fields)

-- the n bytes that a text writes in hexadecimal digits
abbrev pub written : ℕ → List ℕ → Option (List ℕ)
written n text = result_ok (decode_sized text n)

-- a field is there and doesn't write n bytes
abbrev pub is_bad : ℕ → Option (List ℕ) → Bool
is_bad n None = false
is_bad n (Some value) = is_none (written n value)

-- the name of the first digest field that is malformed
abbrev pub bad_header : List FieldText → Option (List ℕ)
bad_header fields =
    if is_bad 16 (first_value fields (codes "X-Checksum-Md5")) then Some (codes "X-Checksum-Md5") else (
    if is_bad 20 (first_value fields (codes "X-Checksum-Sha1")) then Some (codes "X-Checksum-Sha1") else (
    if is_bad 32 (first_value fields (codes "X-Checksum-Sha256")) then Some (codes "X-Checksum-Sha256") else None))

-- the digests that the fields write
abbrev pub wanted_digests : List FieldText → SomeDigests
wanted_digests fields = record {
  md5 = option_and_then (written 16) (first_value fields (codes "X-Checksum-Md5"));
  sha1 = option_and_then (written 20) (first_value fields (codes "X-Checksum-Sha1"));
  sha256 = option_and_then (written 32) (first_value fields (codes "X-Checksum-Sha256"));
}

-- that value, letter by letter
abbrev pub is_value : Option (List ℕ) → List ℕ → Bool
is_value None value = false
is_value (Some text) value = pointwise nat_eq text value

-- the content is to be found by its digests
abbrev pub is_checksum_deploy : List FieldText → Bool
is_checksum_deploy fields = is_value (first_value fields (codes "X-Checksum-Deploy")) (codes "true")

-- neither of the digests is there by which a content may be found
abbrev pub lacks_digest : SomeDigests → Bool
lacks_digest wanted = is_none wanted.sha1 && is_none wanted.sha256

-- which of the digests the client gave
abbrev pub given_of : SomeDigests → Given
given_of wanted = record { md5 = is_some wanted.md5; sha1 = is_some wanted.sha1; sha256 = is_some wanted.sha256 }

-- a digest is the one that is wanted, if one is
abbrev pub agrees : Option (List ℕ) → List ℕ → Bool
agrees None digest = true
agrees (Some wanted) digest = pointwise nat_eq wanted digest

-- all of them are
abbrev pub has_digests : SomeDigests → Digests → Bool
has_digests wanted d = agrees wanted.md5 d.md5 && agrees wanted.sha1 d.sha1 && agrees wanted.sha256 d.sha256

-- the first digest that is another one
abbrev pub mismatch : SomeDigests → Digests → Option (List ℕ)
mismatch wanted d =
    if not (agrees wanted.md5 d.md5) then Some (codes "md5") else (
    if not (agrees wanted.sha1 d.sha1) then Some (codes "sha1") else (
    if not (agrees wanted.sha256 d.sha256) then Some (codes "sha256") else None))

-- a content that has the digests, where `digests` tells those of a content
abbrev pub is_wanted : {F : Type 0} → (F → Digests) → SomeDigests → Option F → Bool
is_wanted digests wanted None = false
is_wanted digests wanted (Some file) = has_digests wanted (digests file)

-- the first content that has them, in the order of the items
abbrev pub file_with : {F : Type 0} → (F → Digests) → SomeDigests → List (Item F) → Option F
file_with digests wanted items = option_and_then (λ item. item.file) (find (λ item. is_wanted digests wanted item.file) items)
