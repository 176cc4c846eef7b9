-- What is decided in code, in the words of the model.
use Rattle.std.specs.Prelude.{◌≡◌, ℕ, ℤ, Bool, List, length, All, Contains, Option, Some, None, Result}
use Rattle.arti_rows.specs.declared.limits.Limits.{Limits}
use Rattle.arti_rows.specs.declared.rows.FileRef.{FileRef}
use Rattle.arti_rows.specs.declared.edits.Change.{Change}
use Rattle.arti_rows.specs.declared.refusal.Refusal.{Refusal}
use Rattle.arti_ground.specs.State.{State}
use Rattle.arti_blobs.specs.declared.staging.Staged.{Staged}
use Rattle.arti_blobs.specs.Contents.{content}
use Rattle.arti_codec.specs.ChangeBytes.{HasBytes}
use Rattle.arti_model.specs.Store.{File}
use Rattle.arti_model.specs.Bodies.{content_kind}
use Rattle.arti_model.specs.Replies.{IsReplyStatus}
use Rattle.arti_model.specs.Stock.{Stock, Answer, reference_to}
use Rattle.arti_model.specs.Decide as model
use Rattle.arti_model.specs.Perform.{perform}
use Rattle.arti_store.specs.Items.{file_in}
use Rattle.arti_store.specs.Changes.{references_of}
use Rattle.arti_store.specs.Store.{View, contents_at, holding_of, shows, judged}
use Rattle.arti_store.specs.Commit.{MayName}
use Rattle.arti_service.specs.declared.decision.Body.{Body}
use Rattle.arti_service.specs.declared.decision.Body.TheVariants.{Json, Kept}
use Rattle.arti_service.specs.declared.decision.Reply.{Reply}
use Rattle.arti_service.specs.declared.decision.Decision.{Decision}
use Rattle.arti_service.specs.declared.decision.Decision.TheVariants.{Refused, Tells, Makes}

-- ---- what a decision means, where the contents file has these bytes

abbrev pub body_in : List ℕ → ℕ → Body → model.Reply File
body_in bytes status (Json text) = model.json status text.items
body_in bytes status (Kept file) =
    record { status = status; kind = content_kind; digests = Some file.digests; content = model.Kept (file_in bytes file) }

abbrev pub reply_in : List ℕ → Reply → model.Reply File
reply_in bytes reply = body_in bytes reply.status reply.body

abbrev pub decision_in : List ℕ → Decision → model.Decision File
decision_in bytes (Refused why) = model.Refused why
decision_in bytes (Tells reply) = model.Tells (reply_in bytes reply)
decision_in bytes (Makes change reply) = model.Makes change (file_in bytes) (reply_in bytes reply)

abbrev pub decision_at : State → Decision → model.Decision File
decision_at s = decision_in (contents_at s)

-- ---- when it may be done

-- a content is a kept one
abbrev pub IsKept : List FileRef → Body → Type 0
IsKept kept (Json text) = Unit {0}
IsKept kept (Kept file) = Contains kept file

pub record MayTell (v : View) (reply : Reply) : Type 0 where
  pub status : IsReplyStatus reply.status
  pub kept : IsKept v.contents.kept reply.body

-- the store accepts the change, whose contents are kept ones or the staged one
pub record MayMake (v : View) (staged : Option Staged) (change : Change) : Type 0 where
  pub accepted : judged v change ≡ None
  pub has_bytes : HasBytes change
  pub references : All (MayName v.contents.kept staged) (references_of change.edits)

abbrev pub MayDo : View → Option Staged → Decision → Type 0
MayDo v staged (Refused why) = Unit {0}
MayDo v staged (Tells reply) = MayTell v reply
MayDo v staged (Makes change reply) = MayMake v staged change × MayTell v reply

-- ---- that it is what the model decides

-- the contents that may be named stand whole in those bytes
abbrev pub AreWhole : List ℕ → List FileRef → Option Staged → Type 0
AreWhole bytes kept staged = (file : FileRef) → MayName kept staged file → length (content bytes file) ≡ file.len

-- what an answer leaves and tells
abbrev pub outcome : Answer → Stock × List ℕ
outcome a = (a.stock, a.reply)

-- two decisions leave and tell the same, whatever store they are performed on
abbrev pub SameDone : model.Decision File → model.Decision File → Type 0
SameDone d e = (limits : Limits) (s : Stock) (alone : Bool) → outcome (perform limits s alone d) ≡ outcome (perform limits s alone e)

-- what the model decides over the store
abbrev pub decided_in : List ℕ → View → model.Ask → List ℕ → File → ℤ → model.Decision File
decided_in bytes v ask body sent moment =
    model.decide (λ file. reference_to file (holding_of bytes v).kept) v.limits (holding_of bytes v).repository ask body sent moment

-- the same, or the refusal that the head alone tells
abbrev pub asked_over : List ℕ → View → Result model.Ask Refusal → List ℕ → File → ℤ → model.Decision File
asked_over bytes v asked body sent moment =
    model.decided (λ file. reference_to file (holding_of bytes v).kept) v.limits (holding_of bytes v).repository asked body sent moment

-- what the model answers over what the store shows
abbrev pub answered : State → View → Bool → Result model.Ask Refusal → List ℕ → File → ℤ → Answer
answered s v alone asked body sent moment = perform v.limits (shows s v) alone (asked_over (contents_at s) v asked body sent moment)

-- A decision over a store is as that one, and may be done: whatever bytes the contents file has, where the kept contents and the staged one
-- stand whole in them.
pub record Decides (v : View) (staged : Option Staged) (the : List ℕ → model.Decision File) (d : Decision) : Type 0 where
  pub means : (bytes : List ℕ) → AreWhole bytes v.contents.kept staged → SameDone (decision_in bytes d) (the bytes)
  pub may : MayDo v staged d
