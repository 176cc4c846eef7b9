-- Changes that are done again.
use Rattle.std.specs.Prelude.{◌≡◌, ℕ, Bool, true, false, ◌&&◌, List, [], ◌∷◌, is_none}
use Rattle.std.specs.List.{AllZip}
use Rattle.arti_rows.specs.declared.limits.Limits.{Limits}
use Rattle.arti_rows.specs.declared.rows.FileRef.{FileRef}
use Rattle.arti_rows.specs.declared.edits.Change.{Change}
use Rattle.arti_codec.specs.ChangeBytes.{ChangeBytes}
use Rattle.arti_model.specs.Store.{Item}
use Rattle.arti_model.specs.Apply.{edited_by, edits_refusal}
use Rattle.arti_store.specs.Changes.{references}

-- references stay what they are
abbrev pub itself : FileRef → FileRef
itself ref = ref

-- the items behind changes
abbrev pub items_after : {F : Type 0} → (FileRef → F) → List Change → List (Item F) → List (Item F)
items_after file_of [] items = items
items_after file_of (change ∷ changes) items = items_after file_of changes (edited_by file_of change.moment change.user change.edits items)

-- no edit of a change is refused
abbrev pub is_accepted : {F : Type 0} → Limits → (FileRef → F) → Change → List (Item F) → Bool
is_accepted limits file_of change items = is_none (edits_refusal limits file_of change.moment change.user change.edits items)

-- no change is, after those before it
abbrev pub are_accepted : {F : Type 0} → Limits → (FileRef → F) → List Change → List (Item F) → Bool
are_accepted limits file_of [] items = true
are_accepted limits file_of (change ∷ changes) items =
    is_accepted limits file_of change items && are_accepted limits file_of changes (edited_by file_of change.moment change.user change.edits items)

-- the bodies are changes that are accepted in turn, and leave these items and name these contents
pub record Replays (limits : Limits) (bodies : List (List ℕ)) (items : List (Item FileRef)) (files : List FileRef) : Type 0 where
  pub changes : List Change
  pub each : AllZip ChangeBytes bodies changes
  pub accepted : are_accepted limits itself changes [] ≡ true
  pub items_are : items ≡ items_after itself changes []
  pub files_are : files ≡ references changes

-- they aren't changes that are accepted in turn
abbrev pub ReplaysNot : Limits → List (List ℕ) → Type 0
ReplaysNot limits bodies = (changes : List Change) → AllZip ChangeBytes bodies changes → are_accepted limits itself changes [] ≡ false
