-- What the heads of requests say: the method, the fields, and the item that the target names, where the request is of a form that is built (after
-- the REST API of JFrog Artifactory).
use Rattle.std.specs.Prelude.{ℕ, Bool, not, ◌&&◌, ◌||◌, nat_eq, if◌then◌else◌, List, [], ◌∷◌, length, drop, codes, Option, Some, None, is_none}
use Rattle.std.specs.List.{list_any, list_all, starts_with}
use Rattle.std.specs.Cmp.Lexicographic.{pointwise}
use Rattle.std.specs.Str.{str_eq_ignore_ascii_case}
use Rattle.arti_rows.specs.Key.{Key, key_of}
use Rattle.arti_rows.specs.Names.{is_repo_byte, path_fault}
use Rattle.arti_model.specs.Requests.{Request, FieldText}
use Rattle.arti_model.specs.Store.{local_key}

-- ---- the method and the fields

-- the method is that one
abbrev pub has_method : Request → List ℕ → Bool
has_method q method = pointwise nat_eq q.method method

-- a reply is told by its head alone
abbrev pub is_head : Request → Bool
is_head q = has_method q (codes "HEAD")

-- some field has that name, without ASCII case
abbrev pub has_field : List FieldText → List ℕ → Bool
has_field fields name = list_any (λ (f : FieldText). str_eq_ignore_ascii_case f.0 name) fields

-- a field whose meaning isn't built yet for any request, and those that are built for a deploy alone
abbrev pub unbuilt_field : List ℕ
unbuilt_field = codes "X-Arti-User"

abbrev pub deploy_fields : List (List ℕ)
deploy_fields =
    codes "X-Checksum-Deploy" ∷ codes "X-Checksum-Sha1" ∷ codes "X-Checksum-Sha256" ∷ codes "X-Checksum-Md5" ∷ []

-- the request has no field whose meaning isn't built yet for it
abbrev pub is_plain : Request → Bool
is_plain q =
    not (has_field q.fields unbuilt_field)
    && (has_method q (codes "PUT") || not (list_any (has_field q.fields) deploy_fields))

-- ---- the target

-- what a target of the one repository begins with
abbrev pub local_front : List ℕ
local_front = codes "/generic-local/"

-- a byte of the targets that are built
abbrev pub is_target_byte : ℕ → Bool
is_target_byte b = is_repo_byte b || nat_eq b 47

-- a path and name that a target writes without escapes
abbrev pub is_plain_path : List ℕ → Bool
is_plain_path path = list_all is_target_byte path && is_none (path_fault path)

-- the item that a target names
abbrev pub target_item : List ℕ → Option Key
target_item target =
    let path = drop (length local_front) target in
    if starts_with nat_eq target local_front && is_plain_path path then Some (key_of local_key path) else None

-- the item that a request names
abbrev pub item_asked : Request → Option Key
item_asked q = if is_plain q then target_item q.target else None

-- the target of a query
abbrev pub query_target : List ℕ
query_target = codes "/api/search/aql"

-- a query, whatever its body is
abbrev pub is_query : Request → Bool
is_query q = has_method q (codes "POST") && pointwise nat_eq q.target query_target
