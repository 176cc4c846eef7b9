use Rattle.std.proofs.Common.{◌≡◌, List, sym, ap, ◌∙◌}
use Rattle.std.specs.Prelude.{◌||◌, is_some}
use Rattle.std.specs.List.{find}
use Rattle.arti_rows.specs.Key.{Key}
use Rattle.arti_model.specs.Store.{has_file}
use Rattle.arti_model.specs.Apply.{has_folder}
use Rattle.arti_store.specs.Items.{items_of}
use Rattle.arti_store.proofs.Meanings.{found_if}
use Rattle.arti_store.proofs.judging.is_barred.Goals as goal

pub returns-then-has_file_among : goal.returns-then-has_file_among
returns-then-has_file_among c =
    let its = items_of c.args.rows.now in
    let above = c.has_file_among.ensures ∙ found_if (has_file its) c.args.folders.now ∙ ap (λ (ks : List Key). is_some (find (has_file its) ks)) c.requires in
    c.if-has_file_among.true ∙ sym (ap (λ b. b || has_folder its c.args.key.now) (sym above ∙ c.if-has_file_among.true))

pub returns-else-has_file_among : goal.returns-else-has_file_among
returns-else-has_file_among c =
    let its = items_of c.args.rows.now in
    let above = c.has_file_among.ensures ∙ found_if (has_file its) c.args.folders.now ∙ ap (λ (ks : List Key). is_some (find (has_file its) ks)) c.requires in
    c.has_folder.ensures ∙ sym (ap (λ b. b || has_folder its c.args.key.now) (sym above ∙ c.if-has_file_among.false))
