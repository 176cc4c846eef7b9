-- What a request asks, or why it is refused before anything is looked up (of this project, after the REST API of JFrog Artifactory): its target,
-- its route, its user, the digests of a deploy, its query parameters, its names, in this order.
use Rattle.std.specs.Prelude.{Result, Ok, Err, ℕ, Bool, true, false, ◌&&◌, ◌||◌, ◌==◌, ◌+◌, ◌-◌, nat_lt, nat_le, if◌then◌else◌, List, [], ◌∷◌, ◌++◌, length, take, drop, codes, nat_eq, Option, Some, None, get_or}
use Rattle.std.specs.Option.{option_or, option_and_then, ok_or, unwrap_or}
use Rattle.std.specs.List.{list_any, list_all, find, starts_with, ends_with, before_first, after_first, slice_split, join_with_byte}
use Rattle.arti_rows.specs.Key.{Key, key_of}
use Rattle.arti_rows.specs.Names.{is_repo_key, first_fault, path_fault, key_fault}
use Rattle.arti_rows.specs.PropTexts.{is_control_byte}
use Rattle.arti_rows.specs.declared.fault.KeyFault.{KeyFault}
use Rattle.arti_rows.specs.declared.fault.KeyFault.TheVariants as fault
use Rattle.arti_rows.specs.declared.refusal.Refusal.{Refusal}
use Rattle.arti_rows.specs.declared.refusal.Refusal.TheVariants as refusal
use Rattle.arti_rows.specs.declared.rows.SomeDigests.{SomeDigests}
use Rattle.arti_model.specs.Requests.{Request, FieldText}
use Rattle.arti_model.specs.Deploys.{first_value, bad_header, wanted_digests, is_checksum_deploy, lacks_digest}
use Rattle.arti_model.specs.Targets.{Param, Target, bind, each, target_read, param, same_text, is_slash}
use Rattle.arti_model.specs.declared.asks.Route.{Route}
use Rattle.arti_model.specs.declared.asks.Route.TheVariants as route
use Rattle.arti_model.specs.declared.asks.Ask.{Ask}
use Rattle.arti_model.specs.declared.asks.AskRow.{AskRow}
use Rattle.arti_model.specs.declared.asks.AskRow.TheVariants as row

-- ---- the table of requests

-- the methods of a path, each with what it asks
abbrev pub Methods : Type 0
Methods = List (List ℕ × Route)

-- a path, and its methods
abbrev pub Form : Type 0
Form = List ℕ × Methods

abbrev pub one : List ℕ → Route → Methods
one method asks = (method, asks) ∷ []

abbrev pub storage_methods : Methods
storage_methods = (codes "GET", route.Info) ∷ (codes "PUT", route.SetProps) ∷ (codes "DELETE", route.DropProps) ∷ []

abbrev pub repository_methods : Methods
repository_methods = (codes "PUT", route.Define) ∷ (codes "POST", route.Redefine) ∷ (codes "GET", route.GetRepo) ∷ []

-- those of an item; a `PUT` of a path that ends in a slash makes a folder
abbrev pub item_methods : Bool → Methods
item_methods slash =
    (codes "PUT", if slash then route.Folder else route.Deploy) ∷ (codes "GET", route.Fetch) ∷ (codes "HEAD", route.Head)
    ∷ (codes "DELETE", route.Delete) ∷ []

-- the paths whose first segment is `api`. `*` stands for a segment, `**` for one or more.
abbrev pub api_forms : List Form
api_forms =
    (codes "api/storage/*/**", storage_methods)
    ∷ (codes "api/copy/*/**", one (codes "POST") route.Copy)
    ∷ (codes "api/move/*/**", one (codes "POST") route.Move)
    ∷ (codes "api/repositories/*", repository_methods)
    ∷ (codes "api/repositories", one (codes "GET") route.ListRepos)
    ∷ (codes "api/system/ping", one (codes "GET") route.Ping)
    ∷ (codes "api/build", one (codes "PUT") route.PutBuild)
    ∷ (codes "api/build/*", one (codes "DELETE") route.DropBuilds)
    ∷ (codes "api/build/*/*", one (codes "GET") route.GetBuild)
    ∷ (codes "api/build/promote/*/*", one (codes "POST") route.Promote)
    ∷ (codes "api/search/aql", one (codes "POST") route.Aql)
    ∷ (codes "api/arti/spec", one (codes "POST") route.Spec)
    ∷ []

-- those of all others: a repository and what lies in it
abbrev pub item_forms : Bool → List Form
item_forms slash = (codes "*/**", item_methods slash) ∷ []

-- the segment of that number, from 0
abbrev pub segment : List (List ℕ) → ℕ → List ℕ
segment segments n = get_or segments n []

-- the last segment is there and empty: the path ends in a slash
abbrev pub ends_empty : List (List ℕ) → Bool
ends_empty segments = nat_eq (length (get_or segments (length segments - 1) (codes "/"))) 0

-- the segments fit the pieces of a path
abbrev pub fits : List (List ℕ) → List (List ℕ) → Bool
fits [] [] = true
fits [] (s ∷ segments) = false
fits (piece ∷ pieces) [] = false
fits (piece ∷ pieces) (s ∷ segments) =
    same_text piece (codes "**") || ((same_text piece (codes "*") || same_text piece s) && fits pieces segments)

-- a form's path fits
abbrev pub has_path : List (List ℕ) → Form → Bool
has_path segments form = fits (slice_split is_slash form.0) segments

-- the route that was found among the methods of a path
abbrev pub found_route : Option (List ℕ × Route) → Result Route Refusal
found_route None = Err refusal.NoMethod
found_route (Some found) = Ok found.1

-- the route of a method among those of a path
abbrev pub route_among : List ℕ → Methods → Result Route Refusal
route_among method methods = found_route (find (λ (m : List ℕ × Route). same_text m.0 method) methods)

-- the route of a method where that is the form of the path, if it has one
abbrev pub route_by : List ℕ → Option Form → Result Route Refusal
route_by method None = Err refusal.NoRoute
route_by method (Some form) = route_among method form.1

-- the forms of paths whose first segment is `api`, or isn't
abbrev pub forms_of : List (List ℕ) → List Form
forms_of segments = if same_text (segment segments 0) (codes "api") then api_forms else item_forms (ends_empty segments)

-- the route of a method and a path's segments
abbrev pub route_read : List ℕ → List (List ℕ) → Result Route Refusal
route_read method segments = route_by method (find (has_path segments) (forms_of segments))

-- ---- fields

-- the user of a request that names none
abbrev pub nobody : List ℕ
nobody = codes "anonymous"

abbrev pub is_user_byte : ℕ → Bool
is_user_byte b = nat_le 33 b && nat_le b 126

-- a user's name: 1 to 64 visible ASCII characters
abbrev pub is_user : List ℕ → Bool
is_user name = nat_lt 0 (length name) && nat_le (length name) 64 && list_all is_user_byte name

-- the user that a field names
abbrev pub user_by : Option (List ℕ) → Result (List ℕ) Refusal
user_by None = Ok nobody
user_by (Some name) = if is_user name then Ok name else Err refusal.BadUser

abbrev pub user_read : List FieldText → Result (List ℕ) Refusal
user_read fields = user_by (first_value fields (codes "X-Arti-User"))

-- the digests of a deploy, where that is the name of the first field of them that is malformed
abbrev pub digests_by : List FieldText → Option (List ℕ) → Result SomeDigests Refusal
digests_by fields (Some name) = Err (refusal.BadHeader name)
digests_by fields None =
    if is_checksum_deploy fields && lacks_digest (wanted_digests fields) then Err refusal.ChecksumMissing else Ok (wanted_digests fields)

abbrev pub digests_read : List FieldText → Result SomeDigests Refusal
digests_read fields = digests_by fields (bad_header fields)

-- ---- query parameters

-- a parameter that must be there; one without `=` is empty
abbrev pub needed_by : List ℕ → Option (Option (List ℕ)) → Result (List ℕ) Refusal
needed_by name None = Err (refusal.Missing name)
needed_by name (Some value) = Ok (unwrap_or value [])

abbrev pub needed : List Param → List ℕ → Result (List ℕ) Refusal
needed params name = needed_by name (param params name)

abbrev pub digit : List ℕ → Option Bool
digit text = if same_text text (codes "1") then Some true else (if same_text text (codes "0") then Some false else None)

-- a parameter that is `0` or `1`, where it is there
abbrev pub flag_by : List ℕ → Bool → Option (Option (List ℕ)) → Result Bool Refusal
flag_by name default None = Ok default
flag_by name default (Some value) = ok_or (option_and_then digit value) (refusal.BadQuery name)

abbrev pub flag : List Param → List ℕ → Bool → Result Bool Refusal
flag params name default = flag_by name default (param params name)

-- ---- names

abbrev pub refusal_of : KeyFault → Refusal
refusal_of fault.BadName = refusal.BadName
refusal_of fault.TooLong = refusal.TooLong None
refusal_of fault.Memory = refusal.Memory

-- a key that has that fault, or none
abbrev pub key_by : Option KeyFault → Key → Result Key Refusal
key_by None key = Ok key
key_by (Some why) key = Err (refusal_of why)

-- what is wrong with a repository's key and the segments of a path. Each is judged as it stands without escapes, so a slash that was escaped breaks the
-- rule of characters; then the whole is judged.
abbrev pub segments_fault : List ℕ → List (List ℕ) → Option KeyFault
segments_fault repo segments =
    if is_repo_key repo then option_or (first_fault segments) (path_fault (join_with_byte 47 segments)) else Some fault.BadName

-- the key of a repository and the segments of a path
abbrev pub key_read : List ℕ → List (List ℕ) → Result Key Refusal
key_read repo segments = key_by (segments_fault repo segments) (key_of repo (join_with_byte 47 segments))

-- the segments of an item's path behind its repository; a last empty one is dropped
abbrev pub item_segments : List (List ℕ) → List (List ℕ)
item_segments segments = drop 1 (if ends_empty segments then take (length segments - 1) segments else segments)

-- the item of a path `*/**`
abbrev pub item_read : Target → Result Key Refusal
item_read t = key_read (segment t.segments 0) (item_segments t.segments)

-- the item of a path `api/*/*/**`
abbrev pub api_item_read : Target → Result Key Refusal
api_item_read t = key_read (segment t.segments 2) (drop 3 t.segments)

abbrev pub repo_read : List ℕ → Result (List ℕ) Refusal
repo_read repo = if is_repo_key repo then Ok repo else Err refusal.BadName

-- a build's name or number: 1 to 255 bytes without control characters
abbrev pub build_text : List ℕ → Result (List ℕ) Refusal
build_text text =
    if nat_eq (length text) 0 || list_any is_control_byte text then Err refusal.BadName else (
    if nat_lt 255 (length text) then Err (refusal.TooLong None) else Ok text)

-- ---- the target of a copy or move

-- where it ends in a slash, the source's name is appended
abbrev pub full_to : List ℕ → List ℕ → List ℕ
full_to to name = if ends_with nat_eq to (codes "/") then to ++ name else to

-- a repository, a slash, and something
abbrev pub is_place : List ℕ → Bool
is_place place = nat_lt 0 (length (before_first is_slash place)) && nat_lt 0 (length (after_first is_slash place))

-- a place behind a leading slash
abbrev pub place_read : List ℕ → Result (List ℕ) Refusal
place_read to =
    if starts_with nat_eq to (codes "/") && is_place (drop 1 to) then Ok (drop 1 to) else Err (refusal.BadQuery (codes "to"))

-- the item at a place
abbrev pub place_key : List ℕ → Result Key Refusal
place_key place =
    let repo = before_first is_slash place in
    let whole = after_first is_slash place in
    key_by (key_fault repo whole) (key_of repo whole)

-- ---- the rows of the table

abbrev pub deploy_row : Target → List FieldText → Result AskRow Refusal
deploy_row t fields =
    bind (digests_read fields) (λ digests. bind (item_read t) (λ key. Ok (row.Deploy key t.text digests (is_checksum_deploy fields))))

abbrev pub info_by : Option (Option (List ℕ)) → Key → AskRow
info_by None key = row.Info key
info_by (Some keys) key = row.GetProps key keys

abbrev pub info_row : Target → Result AskRow Refusal
info_row t = bind (api_item_read t) (λ key. Ok (info_by (param t.params (codes "properties")) key))

abbrev pub set_row : Target → Result AskRow Refusal
set_row t =
    bind (needed t.params (codes "properties")) (λ props.
    bind (flag t.params (codes "recursive") true) (λ deep.
    bind (api_item_read t) (λ key. Ok (row.SetProps key props deep))))

abbrev pub drop_row : Target → Result AskRow Refusal
drop_row t =
    bind (needed t.params (codes "properties")) (λ keys.
    bind (flag t.params (codes "recursive") true) (λ deep.
    bind (api_item_read t) (λ key. Ok (row.DropProps key keys deep))))

-- the source, the target, and whether nothing is to be changed
abbrev pub move_read : Target → Result (Key × (Key × Bool)) Refusal
move_read t =
    bind (needed t.params (codes "to")) (λ to.
    bind (flag t.params (codes "dry") false) (λ dry.
    bind (place_read (full_to to (segment t.segments (length t.segments - 1)))) (λ place.
    bind (api_item_read t) (λ source.
    bind (place_key place) (λ target. Ok (source, (target, dry)))))))

abbrev pub copy_row : Target → Result AskRow Refusal
copy_row t = bind (move_read t) (λ move. Ok (row.Copy move.0 move.1.0 move.1.1))

abbrev pub move_row : Target → Result AskRow Refusal
move_row t = bind (move_read t) (λ move. Ok (row.Move move.0 move.1.0 move.1.1))

abbrev pub define_row : Target → Bool → Result AskRow Refusal
define_row t update = bind (repo_read (segment t.segments 2)) (λ repo. Ok (row.Define repo update))

-- a build's name and number, which stand at that place
abbrev pub build_read : List (List ℕ) → ℕ → Result (List ℕ × List ℕ) Refusal
build_read segments n =
    bind (build_text (segment segments n)) (λ name. bind (build_text (segment segments (n + 1))) (λ number. Ok (name, number)))

abbrev pub build_row : Target → Result AskRow Refusal
build_row t = bind (build_read t.segments 2) (λ build. Ok (row.GetBuild build.0 build.1))

abbrev pub promote_row : Target → Result AskRow Refusal
promote_row t = bind (build_read t.segments 3) (λ build. Ok (row.Promote build.0 build.1))

abbrev pub is_comma : ℕ → Bool
is_comma b = b == 44

abbrev pub drop_builds_row : Target → Result AskRow Refusal
drop_builds_row t =
    bind (needed t.params (codes "buildNumbers")) (λ numbers.
    bind (flag t.params (codes "artifacts") false) (λ artifacts.
    bind (flag t.params (codes "deleteAll") false) (λ all.
    bind (build_text (segment t.segments 2)) (λ name.
    bind (each build_text (slice_split is_comma numbers)) (λ listed. Ok (row.DropBuilds name listed artifacts all))))))

-- what a route asks
abbrev pub row_read : Route → Target → List FieldText → Result AskRow Refusal
row_read route.Deploy t fields = deploy_row t fields
row_read route.Folder t fields = bind (item_read t) (λ key. Ok (row.Folder key))
row_read route.Fetch t fields = bind (item_read t) (λ key. Ok (row.Fetch key))
row_read route.Head t fields = bind (item_read t) (λ key. Ok (row.Head key))
row_read route.Delete t fields = bind (item_read t) (λ key. Ok (row.Delete key))
row_read route.Info t fields = info_row t
row_read route.SetProps t fields = set_row t
row_read route.DropProps t fields = drop_row t
row_read route.Copy t fields = copy_row t
row_read route.Move t fields = move_row t
row_read route.Define t fields = define_row t false
row_read route.Redefine t fields = define_row t true
row_read route.GetRepo t fields = bind (repo_read (segment t.segments 2)) (λ repo. Ok (row.GetRepo repo))
row_read route.ListRepos t fields = Ok row.ListRepos
row_read route.Ping t fields = Ok row.Ping
row_read route.PutBuild t fields = Ok row.PutBuild
row_read route.GetBuild t fields = build_row t
row_read route.DropBuilds t fields = drop_builds_row t
row_read route.Promote t fields = promote_row t
row_read route.Aql t fields = Ok row.Aql
row_read route.Spec t fields = Ok row.Spec

-- what a request asks, or why it is refused
unfoldable pub asked : Request → Result Ask Refusal
asked q =
    bind (target_read q.target) (λ t.
    bind (route_read q.method t.segments) (λ route.
    bind (user_read q.fields) (λ user.
    bind (row_read route t q.fields) (λ row. Ok (record { user = user; row = row })))))
