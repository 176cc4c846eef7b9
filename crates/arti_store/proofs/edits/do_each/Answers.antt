use Rattle.std.proofs.Common.{◌≡◌, ◌+◌, List, ◌∷◌, ◌++◌, drop, sym, subst, ap, ◌∙◌, rules}
use Rattle.std.specs.Prelude.{All, Contains}
use Rattle.std.proofs.lemmas.List.{drop_more}
use Rattle.arti_rows.specs.declared.rows.ItemRow.{ItemRow}
use Rattle.arti_rows.specs.declared.edits.Edit.{Edit}
use Rattle.arti_store.specs.Items.{HasFileIn, items_of}
use Rattle.arti_store.specs.Changes.{edit_references, references_of}
use Rattle.arti_model.specs.Apply.{edited, edited_by}
use Rattle.arti_store.specs.Replays.{itself}
use Rattle.arti_store.proofs.Meanings.{split, has_edited}
use Rattle.arti_store.proofs.edits.do_each.Goals as goal

pub loop-edit-preserved : goal.loop-edit-preserved
loop-edit-preserved c =
    let m = c.args.moment in
    let u = c.args.user.now in
    let i = c.loop-edit.edit-index in
    let es : List Edit = c.args.edits.now in
    let edit : Edit = c.edit-item.result in
    let rest : List Edit = drop (i + 1) es in
    let step : drop i es ≡ edit ∷ rest = drop_more es i edit c.loop-edit-test.true ∙ ap (λ (e : Edit). e ∷ rest) (sym c.edit-item.is) in
    let done : items_of c.do_one.new.rows ≡ edited itself m u edit (items_of c.loop-edit.rows) = search rules in (
      ap (edited_by itself m u rest) done ∙ sym (ap (λ (l : List Edit). edited_by itself m u l (items_of c.loop-edit.rows)) step) ∙ c.loop-edit.invariant.0,
      λ kept has named.
          let was = c.loop-edit.invariant.1 kept has named in
          let names : All (Contains kept) (edit_references edit ++ references_of rest) = subst (λ (l : List Edit). All (Contains kept) (references_of l)) step was.1 in
          let both = split (Contains kept) (edit_references edit) (references_of rest) names in
          (has_edited kept m u edit c.loop-edit.rows c.do_one.new.rows done was.0 both.0, both.1),
    )

pub returns-in_err-do_one-clause-files : goal.returns-in_err-do_one-clause-files
returns-in_err-do_one-clause-files c = λ kept has named.
    let same : c.do_one.new.rows ≡ c.loop-edit.rows = c.in_err-do_one.ensures.unchanged in
    subst (λ (l : List ItemRow). All (HasFileIn kept) l) (sym same) (c.loop-edit.invariant.1 kept has named).0
