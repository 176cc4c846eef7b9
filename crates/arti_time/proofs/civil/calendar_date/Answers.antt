use Rattle.std.proofs.Common.{◌∙◌, arith}
use Rattle.arti_time.proofs.RangeLemmas.{is_date_is}
use Rattle.arti_time.proofs.civil.calendar_date.Goals as goal

pub returns-clause-exists : goal.returns-clause-exists
returns-clause-exists c =
    c.ok.ensures.variant ∙ is_date_is c.args.year c.args.month c.args.day _ (omega arith) c.requires.year c.requires.month c.requires.day c.new.ensures.succeeds
