use Rattle.arti_wild.proofs.RowLemmas.{any_takes}
use Rattle.arti_wild.proofs.capturing.takes.Goals as goal

pub returns-in-Any : goal.returns-in-Any
returns-in-Any c = rw c.in-Any.is (any_takes c.args.text.now c.args.place c.requires)
