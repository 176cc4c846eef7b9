use Rattle.std.proofs.Common.{◌∙◌}
use Rattle.arti_time.proofs.CivilLemmas.{year_of_moment, civil_is, moment_is}
use Rattle.arti_time.proofs.civil.civil_at.Goals as goal

pub year_of-requires : goal.year_of-requires
year_of-requires c =
    let told = c.day_and_time-time.ensures in
    year_of_moment c.day_and_time-time.result.0 c.day_and_time-time.result.1 c.args.moment told.range told.time told.moment

pub returns : goal.returns
returns c =
    let told = c.day_and_time-time.ensures in
    let low = year_of_moment c.day_and_time-time.result.0 c.day_and_time-time.result.1 c.args.moment told.range told.time told.moment in
    record {
      calendar = civil_is c.day_and_time-time.result.0 c.year_of.result c.day_and_time-time.result.1 c.year_of.ensures low told.time;
      range = told.range;
      moment = moment_is c.day_and_time-time.result.0 c.year_of.result c.day_and_time-time.result.1 c.year_of.ensures told.time ∙ told.moment;
    }
