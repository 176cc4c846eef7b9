-- What a store is, and what files stand for (of this project).
use Rattle.std.specs.Prelude.{◌≡◌, ◌≢◌, ℕ, ◌+◌, ◌^◌, ◌≤◌, List, [], ◌∷◌, length, map, Option, None, AllPairs}
use Rattle.std.specs.List.{AllZip}
use Rattle.arti_rows.specs.Sizes.{journal_file, contents_file}
use Rattle.arti_rows.specs.declared.limits.Limits.{Limits}
use Rattle.arti_rows.specs.declared.rows.FileRef.{FileRef}
use Rattle.arti_rows.specs.declared.rows.ItemRow.{ItemRow}
use Rattle.arti_rows.specs.declared.edits.Change.{Change}
use Rattle.arti_rows.specs.declared.refusal.Refusal.{Refusal}
use Rattle.arti_ground.specs.State.{Bytes, State}
use Rattle.arti_journal.specs.Journal.{IsJournal, HoldsJournal, opened}
use Rattle.arti_blobs.specs.Contents.{Contents, content, end_of, Keeps, HoldsContents}
use Rattle.arti_codec.specs.ChangeBytes.{ChangeBytes}
use Rattle.arti_model.specs.Store.{File}
use Rattle.arti_model.specs.Apply.{Holding, nothing_kept, apply, apply_all, edits_refusal, refusal}
use Rattle.arti_model.specs.Stock.{Stock}
use Rattle.arti_store.specs.Items.{file_in, items_of, items_in}
use Rattle.arti_store.specs.Changes.{references}
use Rattle.arti_store.specs.Replays.{itself}

-- what contracts see of a store: its rows in the default order, its contents, the length that is used of the journal, its limits, how
-- many commits answered Ok, and the number of the commit that closed it
pub record View : Type 0 where
  pub rows : List ItemRow
  pub contents : Contents
  pub used : ℕ
  pub limits : Limits
  pub commits : ℕ
  pub closed : Option ℕ

-- ---- what a ground shows of a store

-- the bytes of the contents' file
abbrev pub contents_at : State → List ℕ
contents_at s = s.files contents_file

-- the bytes of a content
abbrev pub bytes_at : State → FileRef → List ℕ
bytes_at s file = content (contents_at s) file

-- the same, with the digests that were recorded of it
abbrev pub file_at : State → FileRef → File
file_at s = file_in (s.files contents_file)

-- what a store has, where the file of the contents has these bytes
abbrev pub holding_of : List ℕ → View → Holding
holding_of bytes v = record { repository = record { items = items_in bytes v.rows }; kept = map (file_in bytes) v.contents.kept }

-- what the store has
abbrev pub shows : State → View → Stock
shows s v = record { holding = holding_of (s.files contents_file) v; used = v.used }

-- the contents stand as they did
abbrev pub SameContents : State → State → Type 0
SameContents old new = new.files contents_file ≡ old.files contents_file

-- the refusal of a change, which its rows tell alone
abbrev pub judged : View → Change → Option Refusal
judged v change = edits_refusal v.limits itself change.moment change.user change.edits (items_of v.rows)

-- ---- what files stand for

-- each change is accepted after those before it
abbrev pub Accepted : Limits → (FileRef → File) → List Change → Holding → Type 0
Accepted limits file_of [] h = Unit {0}
Accepted limits file_of (change ∷ changes) h = (refusal limits file_of change h ≡ None) × Accepted limits file_of changes (apply file_of change h)

-- no pair of a content and its digests stands twice
abbrev pub AreDistinct : List ℕ → List FileRef → Type 0
AreDistinct bytes kept = AllPairs (λ a b. file_in bytes a ≢ file_in bytes b) kept

-- Changes make a holding over the bytes of the contents' file: each is accepted, and each reference in them is an earlier one again, or begins where
-- the kept contents before it end and is a new pair; none passes the file's end or 2^62.
pub record Makes (limits : Limits) (changes : List Change) (bytes : List ℕ) (kept : List FileRef) (h : Holding) : Type 0 where
  pub accepted : Accepted limits (file_in bytes) changes nothing_kept
  pub made : h ≡ apply_all (file_in bytes) changes nothing_kept
  pub refer : Keeps [] (references changes) kept
  pub distinct : AreDistinct bytes kept
  pub within : end_of kept ≤ length bytes
  pub short : end_of kept ≤ 2 ^ 62

-- The image: these files stand for the holding, and so much is used of the journal.
pub record Stands (limits : Limits) (files : Bytes) (h : Holding) (used : ℕ) : Type 0 where
  pub bodies : List (List ℕ)
  pub changes : List Change
  pub kept : List FileRef
  pub journal : IsJournal bodies (files journal_file)
  pub each : AllZip ChangeBytes bodies changes
  pub makes : Makes limits changes (files contents_file) kept h
  pub used_is : used ≡ length (opened bodies) + 1

-- The ground holds the store: its files as read and every image of them stand for it.
pub record HoldsOpen (s : State) (v : View) : Type 0 where
  pub bodies : List (List ℕ)
  pub changes : List Change
  pub journal : HoldsJournal s journal_file v.used bodies
  pub each : AllZip ChangeBytes bodies changes
  pub reads : Makes v.limits changes (s.files contents_file) v.contents.kept (holding_of (s.files contents_file) v)
  pub images : (c : Bytes) → s.may_leave c → Makes v.limits changes (c contents_file) v.contents.kept (holding_of (s.files contents_file) v)
  pub contents : HoldsContents s v.contents

-- the same, unless the store is closed
abbrev pub HoldsStore : State → View → Type 0
HoldsStore s v = v.closed ≡ None → HoldsOpen s v

-- at a moment of a call that changes nothing: as much was told as at its start, and the image stands for the store of its start
pub record Standing (start : State) (v : View) (c w : Bytes) : Type 0 where
  pub told : w ≡ start.told
  pub image : Stands v.limits c (holding_of (start.files contents_file) v) v.used

-- at a moment of an opening: the image stands for whatever the files stood for at its start
pub record Reopening (start : State) (limits : Limits) (c w : Bytes) : Type 0 where
  pub told : w ≡ start.told
  pub image : (h : Holding) (used : ℕ) → Stands limits start.files h used → Stands limits c h used
