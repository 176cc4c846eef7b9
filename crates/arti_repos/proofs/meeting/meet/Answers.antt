use Rattle.std.proofs.Common.{inl, refl, rules}
use Rattle.arti_repos.proofs.Places.{at_gap}
use Rattle.arti_repos.proofs.Marking.{met_by}
use Rattle.arti_repos.proofs.meeting.meet.Goals as goal

pub returns-in-Ok-clause-meets : goal.returns-in-Ok-clause-meets
returns-in-Ok-clause-meets c =
    met_by c.meet_at.result c.args.definitions.now c.args.met.now.items c.meet_at.new.met.items c.in-Ok.at c.args.key.now (search rules) c.requires.count c.meet_at.ensures

pub returns-in-Err-clause-meets : goal.returns-in-Err-clause-meets
returns-in-Err-clause-meets c = (inl (at_gap c.args.definitions.now c.args.key.now c.in-Err.field-0 (search rules)), refl)
