use Rattle.std.proofs.Common.{◌≡◌, rules, to_z, of_z, w32}
use Rattle.arti_time.specs.Civil.{day_number}
use Rattle.arti_time.proofs.RangeLemmas.{day_number_range}
use Rattle.arti_time.proofs.civil.day_number.Goals as goal

pub returns-clause-bound : goal.returns-clause-bound
returns-clause-bound c =
    let same : to_z w32 (of_z w32 c.to_unix_epoch_day.result) ≡ day_number c.args.civil = search rules in
    rw same (day_number_range c.args.civil c.requires)
