use Rattle.std.proofs.Common.{◌≡◌, ◌+◌, List, ◌∷◌, ◌++◌, drop, sym, ap, ◌∙◌, rules, append_assoc}
use Rattle.std.specs.Prelude.{is_none, Option, None}
use Rattle.arti_rows.specs.declared.refusal.Refusal.{Refusal}
use Rattle.std.proofs.lemmas.List.{drop_more}
use Rattle.arti_rows.specs.declared.rows.FileRef.{FileRef}
use Rattle.arti_rows.specs.declared.edits.Edit.{Edit}
use Rattle.arti_store.specs.Changes.{edit_references, references_of}
use Rattle.arti_model.specs.Store.{Item}
use Rattle.arti_model.specs.Apply.{edited, edited_by, edit_refusal, edits_refusal, first_refusal}
use Rattle.arti_store.specs.Items.{items_of}
use Rattle.arti_store.specs.Replays.{itself}
use Rattle.arti_store.proofs.Meanings.{none_is}
use Rattle.arti_store.proofs.recovery.redo_each.Goals as goal

pub loop-edit-preserved : goal.loop-edit-preserved
loop-edit-preserved c =
    let m = c.args.moment in
    let u = c.args.user.now in
    let limits = c.args.limits.now in
    let i = c.loop-edit.edit-index in
    let es : List Edit = c.args.edits.now in
    let edit : Edit = c.edit-item.result in
    let rest : List Edit = drop (i + 1) es in
    let step : drop i es ≡ edit ∷ rest = drop_more es i edit c.loop-edit-test.true ∙ ap (λ (e : Edit). e ∷ rest) (sym c.edit-item.is) in
    let before : List (Item FileRef) = items_of c.loop-edit.rows in
    let accepted : edit_refusal limits edit before ≡ None = none_is (edit_refusal limits edit before) (search rules) in
    let done : items_of c.redo_one.new.rows ≡ edited itself m u edit before = search rules in
    let named : c.redo_one.new.files.items ≡ c.loop-edit.files.items ++ edit_references edit = search rules in (
      ap (λ (l : List (Item FileRef)). is_none (edits_refusal limits itself m u rest l)) done
          ∙ sym (ap (λ (o : Option Refusal). is_none (first_refusal o (edits_refusal limits itself m u rest (edited itself m u edit before)))) accepted)
          ∙ sym (ap (λ (l : List Edit). is_none (edits_refusal limits itself m u l before)) step) ∙ c.loop-edit.invariant.0,
      ap (edited_by itself m u rest) done ∙ sym (ap (λ (l : List Edit). edited_by itself m u l before) step) ∙ c.loop-edit.invariant.1,
      ap (λ (l : List FileRef). l ++ references_of rest) named ∙ append_assoc c.loop-edit.files.items (edit_references edit) (references_of rest)
          ∙ sym (ap (λ (l : List Edit). c.loop-edit.files.items ++ references_of l) step) ∙ c.loop-edit.invariant.2,
    )
