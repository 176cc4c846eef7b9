use Rattle.arti_rows.specs.Sizes.{most_reply}
use Rattle.arti_aql_reply.proofs.Rows.{goes_on, too_long}
use Rattle.arti_aql_reply.proofs.reply.write_others.Goals as goal

pub returns-in-Err-clause-too_large : goal.returns-in-Err-clause-too_large
returns-in-Err-clause-too_large c = λ large.
    too_long c.loop-row.out.items c.loop-row.out.items _ c.args.rows.now c.loop-row.row-index c.row-item.result c.row-item.is c.loop-row-test.true c.loop-row.invariant most_reply (c.in-Err.ensures.too_large large)

pub loop-row-preserved : goal.loop-row-preserved
loop-row-preserved c = goes_on c.loop-row.out.items c.write_next.new.out.items _ c.args.rows.now c.loop-row.row-index c.row-item.result c.row-item.is c.loop-row-test.true c.loop-row.invariant c.in-Ok.ensures.ok
