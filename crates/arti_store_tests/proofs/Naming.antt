-- Edits that name one content alone.
use Rattle.std.proofs.Common.{◌≡◌, ℕ, ◌+◌, ◌<◌, List, ◌∷◌, length, get_or, drop, sym, ap, ◌∙◌, subst}
use Rattle.std.specs.Prelude.{All}
use Rattle.std.proofs.lemmas.List.{drop_more}
use Rattle.std.proofs.lemmas.List.Elements.{All-append}
use Rattle.arti_rows.specs.declared.rows.FileRef.{FileRef}
use Rattle.arti_rows.specs.declared.edits.Edit.{Edit}
use Rattle.arti_store.specs.Changes.{edit_references, references_of}

-- an edit further
pub name_on : (P : FileRef → Type 0) (es : List Edit) (i : ℕ) (edit : Edit) → i < length es → get_or es i edit ≡ edit → All P (edit_references edit)
    → (All P (references_of (drop i es)) → All P (references_of es)) → All P (references_of (drop (i + 1) es)) → All P (references_of es)
name_on P es i edit lt is here so_far rest =
    let step : drop i es ≡ edit ∷ drop (i + 1) es = drop_more es i edit lt ∙ ap (λ e. e ∷ drop (i + 1) es) is in
    so_far (subst (λ (l : List Edit). All P (references_of l)) (sym step) (All-append P (edit_references edit) (references_of (drop (i + 1) es)) here rest))
