use Rattle.std.proofs.Common.{sym}
use Rattle.arti_catalog.proofs.Boxed.{set-opened}
use Rattle.arti_catalog.proofs.rows.Rows.put.Goals as goal

pub returns : goal.returns
returns c =
    let done = set-opened c.self.inside.slots.items c.grow.new.slots.items c.args.id c.in_ok-row.row c.in_ok-grow.ensures.long c.in_ok-grow.ensures.each in
    rw (← c.self.view_is, sym c.in_ok-row.ensures.ok) done
