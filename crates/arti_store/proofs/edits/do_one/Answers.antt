use Rattle.arti_store.specs.Items.{items_of}
use Rattle.arti_store.proofs.Meanings.{other_edited}
use Rattle.arti_store.proofs.edits.do_one.Goals as goal

pub returns-in_default-clause-done : goal.returns-in_default-clause-done
returns-in_default-clause-done c =
    other_edited c.args.moment c.args.user.now c.args.edit.now (items_of c.args.rows.now) (c.in_default.not-Folder, c.in_default.not-File, c.in_default.not-Downloaded)
