use Rattle.arti_aql_domains.specs.Conditions.{cond_view}
use Rattle.arti_aql_domains.proofs.OneRow.{alone-holds}
use Rattle.arti_aql_domains.proofs.alone.test.Goals as goal

pub returns : goal.returns
returns c = record { holds = alone-holds (cond_view c.args.cond.now) c.args.row.now c.holds.result c.requires.alone c.holds.ensures }
