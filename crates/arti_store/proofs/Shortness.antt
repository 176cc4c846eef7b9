-- Kept contents are short.
use Rattle.std.proofs.Common.{◌≡◌, inl, inr, ◌≤◌, ℕ, Bool, true, false, cond, List, [], ◌∷◌, ◌++◌, Option, None, Some, sym, subst}
use Rattle.std.specs.Prelude.{All, ◌⊎◌}
use Rattle.std.specs.List.{AllZip}
use Rattle.std.proofs.lemmas.List.Elements.{All-nil, All-cons, All-head, All-tail, All-push, All-append, All-contains}
use Rattle.arti_rows.specs.Sizes.{most_content}
use Rattle.arti_rows.specs.declared.limits.Limits.{Limits}
use Rattle.arti_rows.specs.declared.rows.FileRef.{FileRef}
use Rattle.arti_rows.specs.declared.edits.Edit.{Edit}
use Rattle.arti_rows.specs.declared.edits.Edit.TheVariants as edits
use Rattle.arti_rows.specs.declared.edits.Change.{Change}
use Rattle.arti_blobs.specs.declared.staging.Staged.{Staged}
use Rattle.arti_blobs.specs.Contents.{Keeps}
use Rattle.arti_codec.specs.ChangeBytes.{file_ref, file_fields, edit, edit_list, change, HasBytes, ChangeBytes}
use Rattle.arti_model.specs.Store.{Item}
use Rattle.arti_store.specs.Changes.{edit_references, references_of, references}
use Rattle.arti_store.specs.Replays.{Replays}
use Rattle.arti_store.specs.Commit.{kept_and, AddsSome}

abbrev pub IsShort : FileRef → Type 0
IsShort file = file.len ≤ most_content

edit_short : (e : Edit) → edit.keeps e → All IsShort (edit_references e)
unfolding edit file_fields file_ref
edit_short (edits.File key g file props) keeps = All-cons IsShort file [] keeps.1.1.0.1.0.1 (All-nil IsShort)
edit_short (edits.Define def) keeps = All-nil IsShort
edit_short (edits.Folder key) keeps = All-nil IsShort
edit_short (edits.Remove key) keeps = All-nil IsShort
edit_short (edits.Move from to) keeps = All-nil IsShort
edit_short (edits.Copy from to) keeps = All-nil IsShort
edit_short (edits.SetProps key deep props) keeps = All-nil IsShort
edit_short (edits.DropProps key deep keys) keeps = All-nil IsShort
edit_short (edits.Downloaded key) keeps = All-nil IsShort
edit_short (edits.Build info) keeps = All-nil IsShort
edit_short (edits.Unbuild name build_number) keeps = All-nil IsShort
edit_short (edits.Promote name build_number row) keeps = All-nil IsShort
edit_short (edits.Kept file) keeps = All-nil IsShort
edit_short (edits.Item row) keeps = All-nil IsShort
edit_short (edits.Held row) keeps = All-nil IsShort

edits_short : (es : List Edit) → All edit.keeps es → All IsShort (references_of es)
edits_short [] keeps = All-nil IsShort
edits_short (e ∷ es) keeps = All-append IsShort (edit_references e) (references_of es) (edit_short e (All-head edit.keeps e es keeps)) (edits_short es (All-tail edit.keeps e es keeps))

-- what a change names
pub change_short : (c : Change) → HasBytes c → All IsShort (references_of c.edits)
unfolding change edit_list
change_short c has = edits_short c.edits has.1.1.0.1.1

-- what the changes of a journal name
zip_short : (bodies : List (List ℕ)) (changes : List Change) → AllZip ChangeBytes bodies changes → All IsShort (references changes)
zip_short [] [] each = All-nil IsShort
zip_short [] (c ∷ changes) each = absurd each
zip_short (b ∷ bodies) [] each = absurd each
zip_short (b ∷ bodies) (c ∷ changes) each = All-append IsShort (references_of c.edits) (references changes) (change_short c each.0.0) (zip_short bodies changes each.1)

-- what is kept of references
keeps_short : (files kept all : List FileRef) → Keeps kept files all → All IsShort kept → All IsShort files → All IsShort all
keeps_short [] kept all keeps old new = subst (λ (l : List FileRef). All IsShort l) (sym keeps) old
keeps_short (file ∷ files) kept all (inl same) old new = keeps_short files kept all same.1 old (All-tail IsShort file files new)
keeps_short (file ∷ files) kept all (inr more) old new =
    keeps_short files (kept ++ file ∷ []) all more.2 (All-push IsShort kept file old (All-head IsShort file files new)) (All-tail IsShort file files new)

pub opened_short : (limits : Limits) (bodies : List (List ℕ)) (items : List (Item FileRef)) (names kept : List FileRef) → Replays limits bodies items names → Keeps [] names kept → All IsShort kept
opened_short limits bodies items names kept replays keeps =
    keeps_short names [] kept keeps (All-nil IsShort) (subst (λ (l : List FileRef). All IsShort l) (sym replays.files_are) (zip_short bodies replays.changes replays.each))

-- what is kept with the added content, which a change names
and_short : (kept : List FileRef) (staged : Staged) → All IsShort kept → IsShort staged.file → All IsShort (kept_and kept (Some staged))
and_short kept staged old new = by staged.fresh
  where
    by : (fresh : Bool) → All IsShort (cond fresh (kept ++ staged.file ∷ []) kept)
    by true = All-push IsShort kept staged.file old new
    by false = old

pub added_short : (kept files : List FileRef) (content added : Option Staged) → AddsSome files content added → All IsShort files → All IsShort kept → All IsShort (kept_and kept added)
added_short kept files content None adds named old = old
added_short kept files content (Some staged) adds named old = and_short kept staged old (All-contains IsShort files staged.file named adds.named)

-- what is kept after a commit, whether the content was added or not
pub taken_short : (kept now files : List FileRef) (content added : Option Staged) → (now ≡ kept) ⊎ (now ≡ kept_and kept added) → AddsSome files content added → All IsShort files → All IsShort kept → All IsShort now
taken_short kept now files content added (inl same) adds named old = subst (λ (l : List FileRef). All IsShort l) (sym same) old
taken_short kept now files content added (inr more) adds named old = subst (λ (l : List FileRef). All IsShort l) (sym more) (added_short kept files content added adds named old)
