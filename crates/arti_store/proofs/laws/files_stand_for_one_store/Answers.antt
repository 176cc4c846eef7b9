use Rattle.std.proofs.Common.{◌≡◌, ℕ, List, sym, ap, ◌∙◌, ◌+◌, length}
use Rattle.arti_rows.specs.declared.edits.Change.{Change}
use Rattle.arti_journal.specs.Journal.{opened}
use Rattle.arti_model.specs.Apply.{apply_all, nothing_kept}
use Rattle.arti_store.specs.Items.{file_in}
use Rattle.arti_store.proofs.Redoing.{zip_once}
use Rattle.arti_store.proofs.Openings.{its_changes}
use Rattle.arti_store.proofs.laws.files_stand_for_one_store.Goals as goal

pub returns : goal.returns
returns c = λ limits files h k m n a b.
    let same : a.bodies ≡ b.bodies = c.one_list_of_bodies.ensures a.bodies b.bodies (files 1) a.journal b.journal in
    let changes : b.changes ≡ a.changes =
    zip_once c.bytes_are_of_one_change.ensures a.bodies b.changes a.changes (its_changes c.one_list_of_bodies.ensures limits files a.bodies a.journal k n b) a.each in (
      a.makes.made ∙ ap (λ (l : List Change). apply_all (file_in (files 3)) l nothing_kept) (sym changes) ∙ sym b.makes.made,
      a.used_is ∙ ap (λ (l : List (List ℕ)). length (opened l) + 1) same ∙ sym b.used_is,
    )
