use Rattle.std.proofs.Common.{◌∙◌}
use Rattle.arti_store.proofs.Places.{has_copied}
use Rattle.arti_store.proofs.rows.Rows.has.Goals as goal

pub returns : goal.returns
returns c = c.is_some.ensures ∙ has_copied c.find.result c.args.self.now c.args.key.now c.find.ensures
