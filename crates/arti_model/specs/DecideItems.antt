-- What is decided of the requests that ask for items (after the REST API of JFrog Artifactory): the first refusal, or the reply, and the change if
-- there is one. It is decided over items with any kind of content.
use Rattle.std.specs.Prelude.{ℕ, ℤ, Bool, true, false, not, ◌&&◌, nat_eq, if◌then◌else◌, List, [], ◌∷◌, ◌++◌, length, map, filter, codes, Option, Some, None}
use Rattle.std.specs.List.{list_any, join_with_byte}
use Rattle.std.specs.Cmp.Lexicographic.{pointwise}
use Rattle.json.specs.Print.{quoted}
use Rattle.arti_rows.specs.Key.{Key, whole_of}
use Rattle.arti_rows.specs.PropTexts.{props_of, keys_of_text}
use Rattle.arti_rows.specs.declared.limits.Limits.{Limits}
use Rattle.arti_rows.specs.declared.rows.Digests.{Digests}
use Rattle.arti_rows.specs.declared.rows.FileRef.{FileRef}
use Rattle.arti_rows.specs.declared.rows.Property.{Property}
use Rattle.arti_rows.specs.declared.rows.SomeDigests.{SomeDigests}
use Rattle.arti_rows.specs.declared.edits.Change.{Change}
use Rattle.arti_rows.specs.declared.edits.Edit.{Edit}
use Rattle.arti_rows.specs.declared.edits.Edit.TheVariants as edits
use Rattle.arti_rows.specs.declared.refusal.Refusal.{Refusal}
use Rattle.arti_rows.specs.declared.refusal.Refusal.TheVariants as refusals
use Rattle.arti_model.specs.Store.{Item, find_item}
use Rattle.arti_model.specs.Apply.{deployed, is_local, refused_if, refused_below, file_above, has_folder}
use Rattle.arti_model.specs.Bodies.{text_members, deployed_body, content_kind, item_text}
use Rattle.arti_model.specs.Deploys.{given_of, mismatch, file_with}
use Rattle.arti_model.specs.Edits.{edit_refusal}
use Rattle.arti_model.specs.Decide.{Reply, Words, Kept, Decision, Refused, Tells, Makes, json}
use Rattle.arti_model.specs.declared.asks.AskRow.{AskRow}
use Rattle.arti_model.specs.declared.asks.AskRow.TheVariants as row

-- what is looked at in a content: its digests, its length, and where it is kept or is to be kept next
pub record Looks (F : Type 0) : Type 0 where
  pub digests : F → Digests
  pub size : F → ℕ
  pub reference : F → FileRef

-- ---- replies

-- a reply that says nothing but that it was done
abbrev pub done : {F : Type 0} → Reply F
done = json 204 []

abbrev pub plain_text : {F : Type 0} → List ℕ → Reply F
plain_text text = record { status = 200; kind = codes "text/plain"; digests = None; content = Words text }

-- the reply that has a file's content
abbrev pub content_of : {F : Type 0} → Looks F → F → Reply F
content_of looks file = record { status = 200; kind = content_kind; digests = Some (looks.digests file); content = Kept file }

-- the body that tells of a folder that was asked for
abbrev pub folder_body : Key → List ℕ
folder_body key = 123 ∷ (text_members ((codes "repo", key.repo) ∷ (codes "path", 47 ∷ (whole_of key ++ codes "/")) ∷ []) ++ codes "}")

-- the one message of what was done
abbrev pub message_body : List ℕ → List ℕ
message_body message = codes "{\"messages\":[{\"level\":\"INFO\",\"message\":" ++ quoted message ++ codes "}]}"

-- what was done to an item, and where it came
abbrev pub moving_message : List ℕ → Key → Key → List ℕ
moving_message word from to = word ++ codes " " ++ item_text from ++ codes " to " ++ item_text to

abbrev pub has_key : List ℕ → Property → Bool
has_key key pair = pointwise nat_eq pair.key key

-- the keys of properties, each once, as they stand
abbrev pub keys_in : List Property → List (List ℕ)
keys_in [] = []
keys_in (pair ∷ props) = pair.key ∷ filter (λ key. not (has_key key pair)) (keys_in props)

-- a key with its values, as a member
abbrev pub values_member : List Property → List ℕ → List ℕ
values_member props key =
    quoted key ++ codes ":[" ++ join_with_byte 44 (map (λ (pair : Property). quoted pair.value) (filter (has_key key) props)) ++ codes "]"

-- the properties whose keys are wanted; all are where no keys were named
abbrev pub is_wanted_key : Option (List (List ℕ)) → List ℕ → Bool
is_wanted_key None key = true
is_wanted_key (Some keys) key = list_any (pointwise nat_eq key) keys

abbrev pub props_body : Option (List (List ℕ)) → List Property → List ℕ
props_body keys props =
    codes "{\"properties\":{" ++ join_with_byte 44 (map (values_member props) (filter (is_wanted_key keys) (keys_in props))) ++ codes "}}"

-- ---- the order of what is decided

-- a refusal goes before what would be decided
abbrev pub unless : {F : Type 0} → Option Refusal → Decision F → Decision F
unless None decision = decision
unless (Some why) decision = Refused why

-- what is decided with what a text gives, if it gives anything
abbrev pub with_read : {F A : Type 0} → Option A → (A → Decision F) → Decision F
with_read None decide = Refused refusals.BadProps
with_read (Some read) decide = decide read

-- a change of one edit
abbrev pub one_edit : ℤ → List ℕ → Edit → Change
one_edit moment user edit = record { moment = moment; user = user; edits = edit ∷ [] }

-- an edit, and the reply to it, unless it is refused
abbrev pub making : {F : Type 0} → Limits → List (Item F) → ℤ → List ℕ → (FileRef → F) → Edit → Reply F → Decision F
making limits items moment user file_of edit reply = unless (edit_refusal limits edit items) (Makes (one_edit moment user edit) file_of reply)

-- every repository but the one is unknown
abbrev pub unknown : Key → Option Refusal
unknown key = refused_if (not (is_local key)) (refusals.NoRepo key.repo) None

-- ---- deploys and folders

-- the properties of a deploy, which may have none
abbrev pub props_given : List ℕ → Option (List Property)
props_given text = if nat_eq (length text) 0 then Some [] else props_of text

-- what refuses a deploy whatever its content is
abbrev pub bars : {F : Type 0} → List (Item F) → Key → Option Refusal
bars items key =
    refused_if (not (is_local key)) (refusals.NoRepo key.repo) (
    refused_below (file_above items key) (
    refused_if (has_folder items key) (refusals.FolderHere key) None))

-- the body that tells of an item that was deployed
abbrev pub item_body : {F : Type 0} → Looks F → Item F → F → List ℕ
item_body looks item file = deployed_body item.key item.created item.created_by (looks.size file) (looks.digests file)

-- a deploy of that content
abbrev pub decide_put : {F : Type 0} → Looks F → Limits → List (Item F) → ℤ → List ℕ → Key → List Property → SomeDigests → F → Decision F
decide_put looks limits items moment user key props wanted file =
    making limits items moment user (λ ref. file) (edits.File key (given_of wanted) (looks.reference file) props)
    (json 201 (item_body looks (deployed moment user key (given_of wanted) file props (find_item items key)) file))

-- a deploy of the content that was found, if one was
abbrev pub decide_found : {F : Type 0} → Looks F → Limits → List (Item F) → ℤ → List ℕ → Key → List Property → SomeDigests → Option F → Decision F
decide_found looks limits items moment user key props wanted None = Refused refusals.NoContent
decide_found looks limits items moment user key props wanted (Some file) = decide_put looks limits items moment user key props wanted file

-- a deploy of the content that was sent, unless a digest is another one
abbrev pub decide_sent : {F : Type 0} → Looks F → Limits → List (Item F) → ℤ → List ℕ → Key → List Property → SomeDigests → F → Option (List ℕ) → Decision F
decide_sent looks limits items moment user key props wanted file (Some name) = Refused (refusals.ChecksumMismatch name)
decide_sent looks limits items moment user key props wanted file None = decide_put looks limits items moment user key props wanted file

-- a deploy of what was sent, or of what has the digests
abbrev pub decide_deploy : {F : Type 0} → Looks F → Limits → List (Item F) → ℤ → List ℕ → Key → List Property → SomeDigests → Bool → F → Decision F
decide_deploy looks limits items moment user key props wanted true sent =
    unless (bars items key) (decide_found looks limits items moment user key props wanted (file_with looks.digests wanted items))
decide_deploy looks limits items moment user key props wanted false sent =
    unless (bars items key) (decide_sent looks limits items moment user key props wanted sent (mismatch wanted (looks.digests sent)))

-- a folder; one that is there stays as it is
abbrev pub decide_folder : {F : Type 0} → Limits → List (Item F) → ℤ → List ℕ → (FileRef → F) → Key → Decision F
decide_folder limits items moment user file_of key =
    if is_local key && has_folder items key then Tells (json 201 (folder_body key))
    else making limits items moment user file_of (edits.Folder key) (json 201 (folder_body key))

-- ---- what is there

-- the file of a key; a folder is none
abbrev pub file_among : {F : Type 0} → Option (Item F) → Option F
file_among None = None
file_among (Some item) = item.file

-- a fetch counts a download
abbrev pub decide_fetched : {F : Type 0} → Looks F → ℤ → List ℕ → Key → Option F → Decision F
decide_fetched looks moment user key None = Refused (refusals.NotFound key)
decide_fetched looks moment user key (Some file) = Makes (one_edit moment user (edits.Downloaded key)) (λ ref. file) (content_of looks file)

abbrev pub decide_fetch : {F : Type 0} → Looks F → List (Item F) → ℤ → List ℕ → Key → Decision F
decide_fetch looks items moment user key = unless (unknown key) (decide_fetched looks moment user key (file_among (find_item items key)))

-- a look at its head counts nothing
abbrev pub decide_headed : {F : Type 0} → Looks F → Key → Option F → Decision F
decide_headed looks key None = Refused (refusals.NotFound key)
decide_headed looks key (Some file) = Tells (content_of looks file)

abbrev pub decide_head : {F : Type 0} → Looks F → List (Item F) → Key → Decision F
decide_head looks items key = unless (unknown key) (decide_headed looks key (file_among (find_item items key)))

-- the properties of what is there
abbrev pub decide_shown : {F : Type 0} → Key → Option (List (List ℕ)) → Option (Item F) → Decision F
decide_shown key keys None = Refused (refusals.NotFound key)
decide_shown key keys (Some item) = Tells (json 200 (props_body keys item.props))

abbrev pub decide_props : {F : Type 0} → List (Item F) → Key → Option (List (List ℕ)) → Decision F
decide_props items key keys = unless (unknown key) (decide_shown key keys (find_item items key))

-- where keys are named, they have to be read first
abbrev pub decide_props_named : {F : Type 0} → List (Item F) → Key → Option (List ℕ) → Decision F
decide_props_named items key None = decide_props items key None
decide_props_named items key (Some text) = with_read (keys_of_text text) (λ keys. decide_props items key (Some keys))

-- ---- copies and moves

-- the limits are the last that refuses a change, and refuse none that is only tried
abbrev pub but_full : Option Refusal → Option Refusal
but_full None = None
but_full (Some (refusals.Full which)) = None
but_full (Some why) = Some why

abbrev pub decide_moving : {F : Type 0} → Limits → List (Item F) → ℤ → List ℕ → (FileRef → F) → Edit → Bool → List ℕ → Decision F
decide_moving limits items moment user file_of edit true message = unless (but_full (edit_refusal limits edit items)) (Tells (json 200 (message_body message)))
decide_moving limits items moment user file_of edit false message = making limits items moment user file_of edit (json 200 (message_body message))

-- ---- all kinds

-- What is decided of a request for items, a case for each; `sent` is the content of the body, and `other` what is decided of every other request.
abbrev pub decide_items : {F : Type 0} → Looks F → Limits → List (Item F) → ℤ → List ℕ → F → AskRow → Decision F → Decision F
decide_items looks limits items moment user sent (row.Deploy key props wanted checksum) other =
    with_read (props_given props) (λ read. decide_deploy looks limits items moment user key read wanted checksum sent)
decide_items looks limits items moment user sent (row.Folder key) other = decide_folder limits items moment user (λ ref. sent) key
decide_items looks limits items moment user sent (row.Fetch key) other = decide_fetch looks items moment user key
decide_items looks limits items moment user sent (row.Head key) other = decide_head looks items key
decide_items looks limits items moment user sent (row.Delete key) other = making limits items moment user (λ ref. sent) (edits.Remove key) done
decide_items looks limits items moment user sent (row.GetProps key keys) other = decide_props_named items key keys
decide_items looks limits items moment user sent (row.SetProps key props deep) other =
    with_read (props_of props) (λ read. making limits items moment user (λ ref. sent) (edits.SetProps key deep read) done)
decide_items looks limits items moment user sent (row.DropProps key keys deep) other =
    with_read (keys_of_text keys) (λ read. making limits items moment user (λ ref. sent) (edits.DropProps key deep read) done)
decide_items looks limits items moment user sent (row.Copy from to dry) other =
    decide_moving limits items moment user (λ ref. sent) (edits.Copy from to) dry (moving_message (codes "copied") from to)
decide_items looks limits items moment user sent (row.Move from to dry) other =
    decide_moving limits items moment user (λ ref. sent) (edits.Move from to) dry (moving_message (codes "moved") from to)
decide_items looks limits items moment user sent row.Ping other = Tells (plain_text (codes "OK"))
decide_items looks limits items moment user sent ask other = other
