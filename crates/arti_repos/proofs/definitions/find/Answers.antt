use Rattle.std.proofs.Common.{Some, sym, ap, ◌∙◌, rules}
use Rattle.arti_repos.proofs.Places.{at_place, at_gap}
use Rattle.arti_repos.proofs.definitions.find.Goals as goal

pub returns-in-Ok : goal.returns-in-Ok
returns-in-Ok c = ap Some c.index-definitions-at.is ∙ sym (at_place c.args.definitions.now c.args.key.now c.in-Ok.at c.index-definitions-at.result (search rules))

pub returns-in-Err : goal.returns-in-Err
returns-in-Err c = sym (at_gap c.args.definitions.now c.args.key.now c.in-Err.field-0 (search rules))
