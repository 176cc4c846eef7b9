-- What change a request for items makes (of this project): the model's decision, without the reply.
use Rattle.std.specs.Prelude.{◌≡◌, ◌≢◌, ℕ, ◌≤◌, ℤ, Bool, true, false, not, ◌||◌, if◌then◌else◌, List, Option, Some, None, IfSome, is_none, Result, Ok, Err, IfOk, is_ok}
use Rattle.arti_rows.specs.Key.{Key}
use Rattle.arti_rows.specs.Sizes.{most_content}
use Rattle.arti_rows.specs.declared.limits.Limits.{Limits}
use Rattle.arti_rows.specs.declared.rows.FileRef.{FileRef}
use Rattle.arti_rows.specs.declared.rows.ItemRow.{ItemRow}
use Rattle.arti_rows.specs.declared.rows.Property.{Property}
use Rattle.arti_rows.specs.declared.rows.SomeDigests.{SomeDigests}
use Rattle.arti_rows.specs.declared.edits.Change.{Change}
use Rattle.arti_rows.specs.declared.edits.Edit.TheVariants as edits
use Rattle.arti_rows.specs.declared.refusal.Refusal.{Refusal}
use Rattle.arti_rows.specs.declared.refusal.Refusal.TheVariants as refusals
use Rattle.arti_codec.specs.ChangeBytes.{properties, prop_keys}
use Rattle.arti_model.specs.Store.{Item}
use Rattle.arti_model.specs.Apply.{first_refusal}
use Rattle.arti_model.specs.Deploys.{file_with}
use Rattle.arti_model.specs.Edits.{edits_refusal}
use Rattle.arti_model.specs.Decide.{Decision, Refused, Tells, Makes}
use Rattle.arti_model.specs.DecideItems.{Looks, unless, bars, but_full, decide_deploy, decide_found, decide_folder, making, done}
use Rattle.arti_moves.specs.declared.ask.MoveAsk.{MoveAsk}
use Rattle.arti_moves.specs.declared.ask.MoveAsk.TheVariants as asks

-- a content is the reference to it
abbrev pub by_reference : Looks FileRef
by_reference = record { digests = λ file. file.digests; size = λ file. file.len; reference = λ file. file }

-- the change of a decision, if it makes one
abbrev pub change_in : Decision FileRef → Result (Option Change) Refusal
change_in (Refused why) = Err why
change_in (Tells reply) = Ok None
change_in (Makes change file_of reply) = Ok (Some change)

-- what is decided of a deploy, of a staged content or of the first one that has the digests
abbrev pub decide_content : Limits → List (Item FileRef) → ℤ → List ℕ → Key → List Property → SomeDigests → Option FileRef → Decision FileRef
decide_content limits items moment user key props wanted (Some file) = decide_deploy by_reference limits items moment user key props wanted false file
decide_content limits items moment user key props wanted None =
    unless (bars items key) (decide_found by_reference limits items moment user key props wanted (file_with by_reference.digests wanted items))

-- what is decided of each ask
abbrev pub decided : Limits → List (Item FileRef) → ℤ → List ℕ → MoveAsk → Decision FileRef
decided limits items moment user (asks.Deploy key props wanted file) = decide_content limits items moment user key props wanted file
decided limits items moment user (asks.Folder key) = decide_folder limits items moment user (λ ref. ref) key
decided limits items moment user (asks.Delete key) = making limits items moment user (λ ref. ref) (edits.Remove key) done
decided limits items moment user (asks.SetProps key props deep) = making limits items moment user (λ ref. ref) (edits.SetProps key deep props) done
decided limits items moment user (asks.DropProps key keys deep) = making limits items moment user (λ ref. ref) (edits.DropProps key deep keys) done

-- the change that an ask makes, none where nothing is to be done, or the first refusal
abbrev pub planned : Limits → List (Item FileRef) → ℤ → List ℕ → MoveAsk → Result (Option Change) Refusal
planned limits items moment user ask = change_in (decided limits items moment user ask)

-- it is that plan; but for want of memory
abbrev pub Plans : Result (Option Change) Refusal → Result (Option Change) Refusal → Type 0
Plans (Ok change) plan = plan ≡ Ok change
Plans (Err why) plan = why ≢ refusals.Memory → plan ≡ Err why

-- the change, if one is made
abbrev pub OfChange : (Change → Type 0) → Result (Option Change) Refusal → Type 0
OfChange P plan = IfOk plan (λ made. IfSome made P)

-- nothing refuses a change
abbrev pub IsAccepted : Limits → List (Item FileRef) → Change → Type 0
IsAccepted limits items change = edits_refusal limits (λ ref. ref) change.moment change.user change.edits items ≡ None

-- ---- what has bytes

-- a content isn't too long, if there is one
abbrev pub IsShort : Option FileRef → Type 0
IsShort file = IfSome file (λ (f : FileRef). f.len ≤ most_content)

-- the content of a deploy
abbrev pub content_in : List (Item FileRef) → SomeDigests → Option FileRef → Option FileRef
content_in items wanted (Some file) = Some file
content_in items wanted None = file_with by_reference.digests wanted items

-- what an ask brings keeps the rules of the bytes
abbrev pub KeepsAsk : List (Item FileRef) → MoveAsk → Type 0
KeepsAsk items (asks.Deploy key props wanted file) = (properties 1024).keeps props × IsShort (content_in items wanted file)
KeepsAsk items (asks.SetProps key props deep) = (properties 1024).keeps props
KeepsAsk items (asks.DropProps key keys deep) = prop_keys.keeps keys
KeepsAsk items (asks.Folder key) = Unit {0}
KeepsAsk items (asks.Delete key) = Unit {0}

-- ---- what was judged

-- a row is a folder's, if there is one
abbrev pub is_folder_row : Option ItemRow → Bool
is_folder_row None = false
is_folder_row (Some row) = is_none row.file

-- a limit would be passed
abbrev pub is_full : Refusal → Bool
is_full (refusals.Full which) = true
is_full why = false

-- something else than a limit refuses
abbrev pub is_barred : Result (Unit {0}) Refusal → Bool
is_barred (Ok fine) = false
is_barred (Err why) = not (is_full why)

-- a judgement that is told before limits, beside another
abbrev pub sooner : Result (Unit {0}) Refusal → Result (Unit {0}) Refusal → Result (Unit {0}) Refusal
sooner judged checked = if is_ok judged || is_barred checked then checked else judged

-- the same of what they say
abbrev pub before_full : Option Refusal → Option Refusal → Option Refusal
before_full None why = why
before_full (Some e) why = first_refusal (but_full why) (Some e)

-- the change, unless it was refused
abbrev pub settled : Result (Unit {0}) Refusal → Change → Result (Option Change) Refusal
settled (Ok fine) change = Ok (Some change)
settled (Err why) change = Err why
