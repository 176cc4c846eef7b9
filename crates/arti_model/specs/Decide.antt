-- What a request comes to, before anything outside is touched (after the REST API of JFrog Artifactory): what its head asks, and what is decided
-- over the repository alone.
use Rattle.std.specs.Prelude.{ℕ, ℤ, Bool, ◌&&◌, ◌||◌, nat_lt, if◌then◌else◌, List, [], ◌∷◌, length, codes, Option, Some, None, is_some, option_and_then, Result, Ok, Err}
use Rattle.arti_rows.specs.Key.{Key}
use Rattle.arti_rows.specs.DigestsOf.{digests_of}
use Rattle.arti_rows.specs.declared.limits.Limits.{Limits}
use Rattle.arti_rows.specs.declared.rows.Digests.{Digests}
use Rattle.arti_rows.specs.declared.rows.FileRef.{FileRef}
use Rattle.arti_rows.specs.declared.rows.SomeDigests.{SomeDigests}
use Rattle.arti_rows.specs.declared.edits.Change.{Change}
use Rattle.arti_rows.specs.declared.edits.Edit.TheVariants as edits
use Rattle.arti_rows.specs.declared.refusal.Refusal.{Refusal}
use Rattle.arti_rows.specs.declared.refusal.Refusal.TheVariants as refusals
use Rattle.arti_model.specs.Requests.{Request, FieldText}
use Rattle.arti_model.specs.Store.{Repository, Item, File, find_item}
use Rattle.arti_model.specs.Apply.{deployed, file_above, has_folder, added_with, passes_limit}
use Rattle.arti_model.specs.Bodies.{json_kind, content_kind, deploy_body}
use Rattle.arti_model.specs.Deploys.{bad_header, wanted_digests, is_checksum_deploy, lacks_digest, given_of, mismatch, file_with}
use Rattle.arti_model.specs.Query.{file_size, all_in, query_text, thin_key, thin_end}
use Rattle.arti_model.specs.Heads.{has_method, is_plain, is_query, item_asked}

-- ---- what is asked

pub data Ask : Type 0 where
  -- a deploy of the content that is sent, with the digests that it has to have
  Deploy : Key → SomeDigests → Ask
  -- a deploy of the first content that has these digests
  DeployFound : Key → SomeDigests → Ask
  Fetch : Key → Ask
  Query : Ask

-- a deploy, where that is the name of the first digest field that is malformed
abbrev pub deploy_asked : Key → List FieldText → Option (List ℕ) → Result Ask Refusal
deploy_asked key fields (Some name) = Err (refusals.BadHeader name)
deploy_asked key fields None =
    if is_checksum_deploy fields && lacks_digest (wanted_digests fields) then Err refusals.ChecksumMissing else (
    if is_checksum_deploy fields then Ok (DeployFound key (wanted_digests fields)) else Ok (Deploy key (wanted_digests fields)))

-- what is asked of that item
abbrev pub asked_of : Request → Option Key → Result Ask Refusal
asked_of q None = Err (refusals.NotYet None)
asked_of q (Some key) =
    if has_method q (codes "PUT") then deploy_asked key q.fields (bad_header q.fields) else (
    if has_method q (codes "GET") then Ok (Fetch key) else Err (refusals.NotYet None))

-- what a head asks, or the refusal that it alone tells
abbrev pub ask_of : Request → Result Ask Refusal
ask_of q = if is_plain q && is_query q then Ok Query else asked_of q (item_asked q)

-- ---- decisions

-- the bytes of a reply behind its head: a text, or a content that is kept
pub data Content (F : Type 0) : Type 0 where
  Words : List ℕ → Content F
  Kept : F → Content F

-- a reply; its length is its content's
pub record Reply (F : Type 0) : Type 0 where
  pub status : ℕ
  pub kind : List ℕ
  pub digests : Option Digests
  pub content : Content F

-- a refusal; a reply, and nothing changes; or a change, what the references in it stand for, and the reply to it
pub data Decision (F : Type 0) : Type 0 where
  Refused : Refusal → Decision F
  Tells : Reply F → Decision F
  Makes : Change → (FileRef → F) → Reply F → Decision F

-- a reply with a JSON body
abbrev pub json : {F : Type 0} → ℕ → List ℕ → Reply F
json status body = record { status = status; kind = json_kind; digests = None; content = Words body }

-- the reply that has a file's content
abbrev pub content_of : File → Reply File
content_of file = record { status = 200; kind = content_kind; digests = Some file.digests; content = Kept file }

-- ---- deploys

-- the user of a request that names none
abbrev pub anonymous : List ℕ
anonymous = codes "anonymous"

-- a content with the digests of its own
abbrev pub file_of_body : List ℕ → File
file_of_body body = record { content = body; digests = digests_of body }

-- the change of a deploy of that content
abbrev pub deploy_making : ℤ → Key → SomeDigests → FileRef → Change
deploy_making moment key wanted file =
    record { moment = moment; user = anonymous; edits = edits.File key (given_of wanted) file [] ∷ [] }

-- the item that a deploy makes
abbrev pub item_making : Repository File → ℤ → Key → SomeDigests → File → Item File
item_making r moment key wanted file = deployed moment anonymous key (given_of wanted) file [] (find_item r.items key)

-- a deploy of that content; one that would pass the limit of items isn't built yet
abbrev pub decide_file : (File → FileRef) → Limits → Repository File → ℤ → Key → SomeDigests → File → Decision File
decide_file reference limits r moment key wanted file =
    if passes_limit limits r.items (added_with r.items key) then Refused (refusals.NotYet None)
    else Makes (deploy_making moment key wanted (reference file)) (λ ref. file) (json 201 (deploy_body (item_making r moment key wanted file) file))

-- a deploy of the content that was found, if one was
abbrev pub decide_found : (File → FileRef) → Limits → Repository File → ℤ → Key → SomeDigests → Option File → Decision File
decide_found reference limits r moment key wanted None = Refused refusals.NoContent
decide_found reference limits r moment key wanted (Some file) = decide_file reference limits r moment key wanted file

-- a deploy of the content that was sent, unless a digest is another one
abbrev pub decide_sent : (File → FileRef) → Limits → Repository File → ℤ → Key → SomeDigests → File → Option (List ℕ) → Decision File
decide_sent reference limits r moment key wanted file (Some name) = Refused (refusals.ChecksumMismatch name)
decide_sent reference limits r moment key wanted file None = decide_file reference limits r moment key wanted file

-- a file stands above, or a folder at the key
abbrev pub is_barred : {F : Type 0} → List (Item F) → Key → Bool
is_barred items key = is_some (file_above items key) || has_folder items key

-- there the refusal isn't built yet
abbrev pub unless_barred : Repository File → Key → Decision File → Decision File
unless_barred r key decision = if is_barred r.items key then Refused (refusals.NotYet None) else decision

-- ---- fetches and queries

-- the file of a key; a folder is none
abbrev pub file_at : {F : Type 0} → List (Item F) → Key → Option F
file_at items key = option_and_then (λ item. item.file) (find_item items key)

-- the change of a fetch
abbrev pub fetch_change : ℤ → Key → Change
fetch_change moment key = record { moment = moment; user = anonymous; edits = edits.Downloaded key ∷ [] }

-- a fetch where that is the file
abbrev pub decide_content : ℤ → Key → Option File → Decision File
decide_content moment key None = Refused (refusals.NotFound key)
decide_content moment key (Some file) = Makes (fetch_change moment key) (λ ref. file) (content_of file)

-- a query by the key in its body
abbrev pub decide_by_key : Repository File → List ℕ → Option (List ℕ) → Decision File
decide_by_key r body None = Refused (refusals.NotYet (Some (thin_end body)))
decide_by_key r body (Some key) = Tells (json 200 (query_text file_size (all_in key) r))

abbrev pub decide_query : Limits → Repository File → List ℕ → Decision File
decide_query limits r body =
    if nat_lt limits.document (length body) then Refused refusals.DocumentTooLarge else decide_by_key r body (thin_key body)

-- ---- all kinds

-- What is decided over the repository, a case for each kind of request: `reference` tells where a content is kept, or is to be kept next, and
-- `sent` is the content of the body.
abbrev pub decide : (File → FileRef) → Limits → Repository File → Ask → List ℕ → File → ℤ → Decision File
decide reference limits r (Deploy key wanted) body sent moment =
    unless_barred r key (decide_sent reference limits r moment key wanted sent (mismatch wanted sent.digests))
decide reference limits r (DeployFound key wanted) body sent moment =
    unless_barred r key (decide_found reference limits r moment key wanted (file_with (λ (f : File). f.digests) wanted r.items))
decide reference limits r (Fetch key) body sent moment = decide_content moment key (file_at r.items key)
decide reference limits r Query body sent moment = decide_query limits r body

-- the same, unless the head alone tells a refusal
abbrev pub decided : (File → FileRef) → Limits → Repository File → Result Ask Refusal → List ℕ → File → ℤ → Decision File
decided reference limits r (Err why) body sent moment = Refused why
decided reference limits r (Ok ask) body sent moment = decide reference limits r ask body sent moment
