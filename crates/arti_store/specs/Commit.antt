-- What a commit asks for, and how it ends (of this project).
use Rattle.std.specs.Prelude.{◌≡◌, ◌≢◌, ◌⊎◌, ℕ, ◌+◌, ◌-◌, ◌^◌, ◌<◌, ◌≤◌, min, false, List, length, IsTrue, Option, None, Some, IfSome, All, Contains, Result, Ok, Err}
use Rattle.arti_rows.specs.Sizes.{contents_file}
use Rattle.arti_rows.specs.declared.limits.Limits.{Limits}
use Rattle.arti_rows.specs.declared.rows.FileRef.{FileRef}
use Rattle.arti_rows.specs.declared.edits.Change.{Change}
use Rattle.arti_rows.specs.declared.refusal.Refusal.TheVariants as refusals
use Rattle.arti_rows.specs.declared.refusal.Which.{Which}
use Rattle.arti_rows.specs.declared.refusal.Which.TheVariants as kinds
use Rattle.arti_ground.specs.State.{Bytes, State}
use Rattle.arti_blobs.specs.declared.staging.Staged.{Staged}
use Rattle.arti_blobs.specs.Contents.{Contents, end_of, kept_with}
use Rattle.arti_model.specs.Apply.{edited_by}
use Rattle.arti_model.specs.Bodies.{refused}
use Rattle.arti_model.specs.Refusals.{status_of, message_of}
use Rattle.arti_model.specs.Stock.{Stock, Answer, unchanged, body_length, fills_journal}
use Rattle.arti_store.specs.declared.fault.CommitFault.{CommitFault}
use Rattle.arti_store.specs.declared.fault.CommitFault.TheVariants.{Closed, Full, Device, Memory}
use Rattle.arti_store.specs.Items.{items_of}
use Rattle.arti_store.specs.Changes.{references_of}
use Rattle.arti_store.specs.Replays.{itself}
use Rattle.arti_store.specs.Store.{View, file_at, Stands}

-- ---- the contents that a change names

-- a kept one, or the staged one
abbrev pub MayName : List FileRef → Option Staged → FileRef → Type 0
MayName kept None file = Contains kept file
MayName kept (Some staged) file = Contains kept file ⊎ (file ≡ staged.file)

-- A staged content may be kept: it is kept already, or it begins where the kept ones end, stands whole in the file and is a new pair. What stands
-- in the file is said of a ground that tells it.
pub record IsStaged (tells : Type 0) (s : State) (kept : List FileRef) (staged : Staged) : Type 0 where
  pub known : staged.fresh ≡ false → Contains kept staged.file
  pub place : IsTrue staged.fresh → staged.file.place ≡ end_of kept
  pub short : end_of (kept_with kept staged) < 2 ^ 63
  pub whole : tells → IsTrue staged.fresh → end_of kept + staged.file.len ≤ length (s.files contents_file)
  pub new : tells → IsTrue staged.fresh → All (λ (file : FileRef). file_at s file ≢ file_at s staged.file) kept

-- The contents that these references name are there: kept, or staged and ready to be kept.
pub record Supplies (tells : Type 0) (s : State) (contents : Contents) (staged : Option Staged) (files : List FileRef) : Type 0 where
  pub unstaged : contents.staging ≡ None
  pub named : All (MayName contents.kept staged) files
  pub content : IfSome staged (IsStaged tells s contents.kept)

-- ---- what is kept

-- a fresh content is added where the change names it
pub record IsAdded (files : List FileRef) (content : Option Staged) (staged : Staged) : Type 0 where
  pub is : content ≡ Some staged
  pub fresh : IsTrue staged.fresh
  pub named : Contains files staged.file

-- what is added, or nothing is
abbrev pub AddsSome : List FileRef → Option Staged → Option Staged → Type 0
AddsSome files content None = (staged : Staged) → IsAdded files content staged → ⊥
AddsSome files content (Some staged) = IsAdded files content staged

-- the kept contents, and what is added
abbrev pub kept_and : List FileRef → Option Staged → List FileRef
kept_and kept None = kept
kept_and kept (Some staged) = kept_with kept staged

-- what is added may be kept
abbrev pub MayKeep : Contents → Option Staged → Type 0
MayKeep contents None = contents.staging ≡ None
MayKeep contents (Some staged) =
    (contents.staging ≡ None) × (IsTrue staged.fresh → staged.file.place ≡ end_of contents.kept) × (end_of (kept_with contents.kept staged) < 2 ^ 63)

-- ---- whether there is room, which no content tells

-- the kept contents would pass their limit
pub record PassesBlobs (v : View) (files : List FileRef) (content : Option Staged) : Type 0 where
  pub staged : Staged
  pub added : IsAdded files content staged
  pub passes : v.limits.blobs < end_of v.contents.kept + staged.file.len

-- the limit of the journal is asked only behind that of the contents; no memory may be found before it is, and then nothing was written
abbrev pub RoomSays : Result (Unit {0}) CommitFault → View → Option Staged → Change → Type 0 → Type 0
RoomSays (Ok done) v content change untouched = (PassesBlobs v (references_of change.edits) content → ⊥) × (fills_journal v.limits v.used change ≡ false)
RoomSays (Err Device) v content change untouched = (PassesBlobs v (references_of change.edits) content → ⊥) × (fills_journal v.limits v.used change ≡ false)
RoomSays (Err Memory) v content change untouched =
    (PassesBlobs v (references_of change.edits) content → ⊥) × (untouched ⊎ (fills_journal v.limits v.used change ≡ false))
RoomSays (Err (Full kinds.Blobs)) v content change untouched = PassesBlobs v (references_of change.edits) content
RoomSays (Err (Full kinds.Journal)) v content change untouched =
    (PassesBlobs v (references_of change.edits) content → ⊥) × IsTrue (fills_journal v.limits v.used change)
RoomSays (Err (Full which)) v content change untouched = ⊥
RoomSays (Err (Closed n)) v content change untouched = Unit {0}

-- ---- how it ends

-- A commit ends as the answer says: it is done, or there is no room for it. Nothing is said of faults and of want of memory.
abbrev pub EndsAs : Result (Unit {0}) CommitFault → Change → List ℕ → Stock → Stock → Answer → Type 0
EndsAs (Ok done) change reply before behind answer = answer ≡ record { stock = behind; reply = reply; change = Some change }
EndsAs (Err (Full which)) change reply before behind answer =
    answer ≡ unchanged before (refused (status_of (refusals.Full which)) (message_of (refusals.Full which)))
EndsAs (Err fault) change reply before behind answer = Unit {0}

-- a count that rises by one, and stands still at its type's end
abbrev pub next_of : ℕ → ℕ
next_of n = min (n + 1) (2 ^ 64 - 1)

-- the store behind a change
pub record Taken (change : Change) (old new : View) : Type 0 where
  pub still_open : new.closed ≡ None
  pub count : new.commits ≡ next_of old.commits
  pub used : new.used ≡ old.used + 5 + body_length change
  pub items : items_of new.rows ≡ edited_by itself change.moment change.user change.edits (items_of old.rows)
  pub kept : (file : FileRef) → Contains old.contents.kept file → Contains new.contents.kept file

-- What a commit leaves: the store behind the change, or as it was, or closed. Without memory its rows may be those of neither.
abbrev pub LeftBy : Result (Unit {0}) CommitFault → Change → View → View → Type 0
LeftBy (Ok done) change old new = Taken change old new
LeftBy (Err Device) change old new = new ≡ record old { closed = Some (next_of old.commits) }
LeftBy (Err Memory) change old new = new.closed ≡ Some (next_of old.commits)
LeftBy (Err fault) change old new = new ≡ old

-- at a moment of a commit: as much was told as at its start, and the image stands for the store before it or behind it
pub record Committing (start : State) (limits : Limits) (before after : Stock) (c w : Bytes) : Type 0 where
  pub told : w ≡ start.told
  pub image : Stands limits c before.holding before.used ⊎ Stands limits c after.holding after.used
