-- Laws of images: what the clauses of a store say of each image that a crash may leave.
use Rattle.std.proofs.Common.{◌≡◌, inl, inr, ℕ, ◌+◌, ◌≤◌, List, [], ◌∷◌, ◌++◌, length, get_or, drop, Bool, true, false, refl, sym, ◌∙◌, ap, subst, arith, length-take, length-drop}
use Rattle.std.specs.Prelude.{All, Contains, IfSome, Option, None, Some, is_none}
use Rattle.std.proofs.lemmas.List.Elements.{All-nil, All-push, All-weaker, All-contains}
use Rattle.std.proofs.lemmas.List.Sums.{sum_by_push}
use Rattle.arti_rows.specs.declared.edits.Edit.{Edit}
use Rattle.arti_rows.specs.declared.edits.Change.{Change}
use Rattle.arti_rows.specs.declared.refusal.Refusal.{Refusal}
use Rattle.arti_rows.specs.declared.rows.FileRef.{FileRef}
use Rattle.arti_ground.specs.State.{Bytes, State, LeavesDisk}
use Rattle.arti_journal.specs.Journal.{StandsFor}
use Rattle.arti_blobs.specs.declared.staging.Staged.{Staged}
use Rattle.arti_blobs.specs.Contents.{Contents, content, end_of, Keeps}
use Rattle.arti_model.specs.Laws.{edits_refusal_mapped}
use Rattle.arti_model.specs.Apply.{Holding, first_refusal, edit_refusal, edits_refusal, refusal}
use Rattle.arti_store.specs.Items.{file_in, items_of}
use Rattle.arti_store.specs.Changes.{references}
use Rattle.arti_store.specs.Replays.{itself}
use Rattle.arti_store.specs.Store.{View, bytes_at, holding_of, judged, Makes, Stands, HoldsOpen, HoldsStore}
use Rattle.arti_store.specs.Commit.{MayName, IsStaged, Supplies}

-- ---- HoldsOpen: images stand for the store

-- every image stands for an open store
pub image_stands : (s : State) (v : View) → HoldsOpen s v → (c : Bytes) → s.may_leave c → Stands v.limits c (holding_of (s.files 3) v) v.used
image_stands s v holds c left = record {
  bodies = holds.bodies;
  changes = holds.changes;
  kept = v.contents.kept;
  journal = inr (holds.journal.images c left);
  each = holds.each;
  makes = holds.images c left;
  used_is = holds.journal.length_is;
}

-- From the Ok of a commit on, every image stands for the store behind it: `HoldsStore`, and that the store is open and has this, are
-- clauses of the commit, and each later call that changes nothing has them too.
pub committed_stands : (s : State) (v : View) (behind : Holding) → HoldsStore s v → v.closed ≡ None → holding_of (s.files 3) v ≡ behind → (c : Bytes) → s.may_leave c → Stands v.limits c behind v.used
committed_stands s v behind holds still_open has c left = subst (λ (h : Holding). Stands v.limits c h v.used) has (image_stands s v (holds still_open) c left)

-- so do the files as they read
pub read_stands : (s : State) (v : View) → HoldsOpen s v → Stands v.limits s.files (holding_of (s.files 3) v) v.used
read_stands s v holds = record {
  bodies = holds.bodies;
  changes = holds.changes;
  kept = v.contents.kept;
  journal = inr holds.journal.reads;
  each = holds.each;
  makes = holds.reads;
  used_is = holds.journal.length_is;
}

-- a call that leaves the disk leaves the store
pub disk_stays : (old new : State) (v : View) → LeavesDisk old new → HoldsOpen old v → HoldsOpen new v
disk_stays old new v disk holds =
    let third : new.files 3 ≡ old.files 3 = ap (λ (b : Bytes). b 3) disk.files in
    record {
      bodies = holds.bodies;
      changes = holds.changes;
      journal = record {
        reads = subst (λ (b : Bytes). StandsFor holds.bodies (b 1)) (sym disk.files) holds.journal.reads;
        images = λ c left. holds.journal.images c (disk.images c left);
        length_is = holds.journal.length_is;
      };
      each = holds.each;
      reads = subst (λ (b : List ℕ). Makes v.limits holds.changes b v.contents.kept (holding_of b v)) (sym third) holds.reads;
      images = λ c left. subst (λ (b : List ℕ). Makes v.limits holds.changes (c 3) v.contents.kept (holding_of b v)) (sym third) (holds.images c (disk.images c left));
      contents = omega (arith, holds.contents, ap length third);
    }

-- the same, where the store may be closed
pub store_leaves : (old new : State) (v : View) → LeavesDisk old new → HoldsStore old v → HoldsStore new v
store_leaves old new v disk holds = λ still_open. disk_stays old new v disk (holds still_open)

-- ---- references: where kept contents stand

pub end_push : (kept : List FileRef) (file : FileRef) → end_of (kept ++ file ∷ []) ≡ end_of kept + file.len
end_push kept file = sum_by_push (λ (f : FileRef). f.len) kept file

-- each ends where all of them end or before
pub keeps_within : (files kept all : List FileRef) → All (λ file. file.place + file.len ≤ end_of kept) kept → Keeps kept files all → All (λ file. file.place + file.len ≤ end_of all) all
keeps_within [] kept all within keeps = subst (λ (l : List FileRef). All (λ file. file.place + file.len ≤ end_of l) l) (sym keeps) within
keeps_within (file ∷ files) kept all within (inl old) = keeps_within files kept all within old.1
keeps_within (file ∷ files) kept all within (inr new) =
    let more : end_of (kept ++ file ∷ []) ≡ end_of kept + file.len = end_push kept file in
    keeps_within files (kept ++ file ∷ []) all
    (All-push (λ (f : FileRef). f.place + f.len ≤ end_of (kept ++ file ∷ [])) kept file
    (All-weaker (λ (f : FileRef). f.place + f.len ≤ end_of kept) (λ (f : FileRef). f.place + f.len ≤ end_of (kept ++ file ∷ [])) (λ f le. omega arith) kept within)
    (omega (arith, more, new.1)))
    new.2

-- the bytes of a reference that lies within the file
pub content_length : (bytes : List ℕ) (file : FileRef) → file.place + file.len ≤ length bytes → length (content bytes file) ≡ file.len
content_length bytes file le = omega (arith, length-take file.len (drop file.place bytes), length-drop file.place bytes)

pub each_within : (bytes : List ℕ) (files kept : List FileRef) → Keeps [] files kept → end_of kept ≤ length bytes → All (λ file. file.place + file.len ≤ length bytes) kept
each_within bytes files kept keeps le =
    All-weaker (λ (f : FileRef). f.place + f.len ≤ end_of kept) (λ (f : FileRef). f.place + f.len ≤ length bytes) (λ f h. omega arith) kept
    (keeps_within files [] kept (All-nil (λ (f : FileRef). f.place + f.len ≤ 0)) keeps)

-- each kept content stands whole in the file
pub contents_whole : (s : State) (v : View) → HoldsOpen s v → All (λ file. length (content (s.files 3) file) ≡ file.len) v.contents.kept
contents_whole s v holds =
    let bytes = s.files 3 in
    All-weaker (λ (f : FileRef). f.place + f.len ≤ length bytes) (λ (f : FileRef). length (content bytes f) ≡ f.len) (λ f le. content_length bytes f le) v.contents.kept
    (each_within bytes (references holds.changes) v.contents.kept holds.reads.refer holds.reads.within)

-- ---- judged, Supplies: what a commit asks for

-- a change is judged by rows as it is by what they show
pub refusal_seen : (bytes : List ℕ) (v : View) (change : Change) → refusal v.limits (file_in bytes) change (holding_of bytes v) ≡ judged v change
unfolding refusal
refusal_seen bytes v change = edits_refusal_mapped (file_in bytes) v.limits itself change.moment change.user change.edits (items_of v.rows)

-- a change that names kept contents alone needs no staging
pub supplies_kept : {tells : Type 0} (s : State) (contents : Contents) (files : List FileRef) → contents.staging ≡ None → All (Contains contents.kept) files → Supplies tells s contents None files
supplies_kept s contents files unstaged named = record { unstaged = unstaged; named = named; content = tt }

-- one that names others of the same
pub supplies_more : {tells : Type 0} (s : State) (contents : Contents) (staged : Option Staged) (files others : List FileRef)
    → Supplies tells s contents staged files → All (MayName contents.kept staged) others → Supplies tells s contents staged others
supplies_more s contents staged files others supplies named = record { unstaged = supplies.unstaged; named = named; content = supplies.content }

-- in a ground that tells
pub supplies_told : {tells : Type 0} (s : State) (contents : Contents) (staged : Option Staged) (files : List FileRef) → tells → Supplies tells s contents staged files → Supplies (Unit {0}) s contents staged files
supplies_told {tells} s contents staged files told supplies = record { unstaged = supplies.unstaged; named = supplies.named; content = by staged supplies.content }
  where
    by : (o : Option Staged) → IfSome o (IsStaged tells s contents.kept) → IfSome o (IsStaged (Unit {0}) s contents.kept)
    by None tt = tt
    by (Some staged) is = record { known = is.known; place = is.place; short = is.short; whole = λ x. is.whole told; new = λ x. is.new told }

-- each content that may be named stands whole in the file
module _ (s : State) (v : View) (holds : HoldsOpen s v) where
  abbrev IsWhole : FileRef → Type 0
  IsWhole file = length (bytes_at s file) ≡ file.len

  staged_whole : (staged : Staged) → IsStaged (Unit {0}) s v.contents.kept staged → (fresh : Bool) → staged.fresh ≡ fresh → IsWhole staged.file
  staged_whole staged is true e = content_length (s.files 3) staged.file (omega (arith, is.place e, is.whole tt e))
  staged_whole staged is false e = All-contains IsWhole v.contents.kept staged.file (contents_whole s v holds) (is.known e)

  one_whole : (staged : Option Staged) (file : FileRef) → IfSome staged (IsStaged (Unit {0}) s v.contents.kept) → MayName v.contents.kept staged file → IsWhole file
  one_whole None file is named = All-contains IsWhole v.contents.kept file (contents_whole s v holds) named
  one_whole (Some staged) file is (inl old) = All-contains IsWhole v.contents.kept file (contents_whole s v holds) old
  one_whole (Some staged) file is (inr same) = subst IsWhole (sym same) (staged_whole staged is staged.fresh refl)

  pub named_whole : (staged : Option Staged) (files : List FileRef) → Supplies (Unit {0}) s v.contents staged files → All (λ (file : FileRef). length (bytes_at s file) ≡ file.len) files
  named_whole staged files supplies = λ k d lt. one_whole staged (get_or files k d) supplies.content (supplies.named k d lt)

-- a change of one edit is judged by it alone
pub judged_one : (v : View) (change : Change) (edit : Edit) → change.edits ≡ edit ∷ [] → is_none (edit_refusal v.limits edit (items_of v.rows)) ≡ true → judged v change ≡ None
judged_one v change edit one none =
    ap (λ (es : List Edit). edits_refusal v.limits itself change.moment change.user es (items_of v.rows)) one
    ∙ by (edit_refusal v.limits edit (items_of v.rows)) none
  where
    by : (o : Option Refusal) → is_none o ≡ true → first_refusal o None ≡ None
    by None e = refl
    by (Some why) e = cc
