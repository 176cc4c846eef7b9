use Rattle.std.proofs.Common.{◌≡◌, None, Some, ap, ◌∙◌, rules}
use Rattle.arti_store.specs.Items.{find_row}
use Rattle.arti_store.proofs.Places.{file_at, is_file_at}
use Rattle.arti_store.proofs.rows.has_file.Goals as goal

pub returns-in-None : goal.returns-in-None
returns-in-None c =
    let found : None ≡ find_row c.args.rows.now c.args.key.now = search rules in
    ap is_file_at found ∙ file_at c.args.rows.now c.args.key.now c.requires.order

pub returns-in-Some : goal.returns-in-Some
returns-in-Some c =
    let found : Some c.in-Some.row.now ≡ find_row c.args.rows.now c.args.key.now = search rules in
    search rules ∙ ap is_file_at found ∙ file_at c.args.rows.now c.args.key.now c.requires.order
