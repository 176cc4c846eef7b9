use Rattle.std.proofs.Common.{◌≡◌, ◌∙◌, ap, rules}
use Rattle.arti_store.specs.Items.{items_of, put_rows}
use Rattle.arti_store.proofs.Meanings.{puts_of}
use Rattle.arti_store.proofs.rows.Rows.put_all.Goals as goal

pub returns-clause-put : goal.returns-clause-put
returns-clause-put c =
    let put : c.put_all.new.rows.items ≡ put_rows c.args.news.items c.args.self.now = search rules in
    ap items_of put ∙ puts_of c.args.news.items c.args.self.now
