-- Why an edit is refused, of those that are built: items that are moved or copied are not.
use Rattle.std.specs.Prelude.{ℕ, ℤ, List, [], ◌∷◌, Option, Some, None}
use Rattle.arti_rows.specs.declared.limits.Limits.{Limits}
use Rattle.arti_rows.specs.declared.rows.FileRef.{FileRef}
use Rattle.arti_rows.specs.declared.edits.Edit.{Edit}
use Rattle.arti_rows.specs.declared.edits.Edit.TheVariants as edits
use Rattle.arti_rows.specs.declared.refusal.Refusal.{Refusal}
use Rattle.arti_rows.specs.declared.refusal.Refusal.TheVariants.{NotYet}
use Rattle.arti_model.specs.Store.{Item}
use Rattle.arti_model.specs.Apply.{first_refusal}
use Rattle.arti_model.specs.Edits.{edited, edit_refusal as whole_refusal}

abbrev pub edit_refusal : {F : Type 0} → Limits → Edit → List (Item F) → Option Refusal
edit_refusal limits (edits.Move from to) items = Some (NotYet None)
edit_refusal limits (edits.Copy from to) items = Some (NotYet None)
edit_refusal limits edit items = whole_refusal limits edit items

-- the first refusal of some edits, each judged after those before it
abbrev pub edits_refusal : {F : Type 0} → Limits → (FileRef → F) → ℤ → List ℕ → List Edit → List (Item F) → Option Refusal
edits_refusal limits file_of moment user [] items = None
edits_refusal limits file_of moment user (edit ∷ others) items =
    first_refusal (edit_refusal limits edit items) (edits_refusal limits file_of moment user others (edited file_of moment user edit items))
