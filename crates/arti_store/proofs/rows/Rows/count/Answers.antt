use Rattle.std.proofs.Common.{◌≡◌, ◌∙◌, ap, rules}
use Rattle.arti_store.specs.Items.{items_of, rows_with_download}
use Rattle.arti_store.proofs.Meanings.{download_of}
use Rattle.arti_store.proofs.rows.Rows.count.Goals as goal

pub returns-clause-counted : goal.returns-clause-counted
returns-clause-counted c =
    let counted : c.count.new.rows.items ≡ rows_with_download c.args.self.now c.args.moment c.args.user.now c.args.key.now = search rules in
    ap items_of counted ∙ download_of c.args.moment c.args.user.now c.args.self.now c.args.key.now
