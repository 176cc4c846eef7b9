use Rattle.arti_journal.proofs.Progress.{journals_once}
use Rattle.arti_journal.proofs.journal.one_list_of_bodies.Goals as goal

pub returns : goal.returns
returns c = journals_once
