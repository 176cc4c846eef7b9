use Rattle.arti_catalog.specs.PropsEdits.{changed_row}
use Rattle.arti_catalog.proofs.PropsOf.{changed_more}
use Rattle.arti_catalog.proofs.props_edits.change_each.Goals as goal

pub loop-id-preserved : goal.loop-id-preserved
loop-id-preserved c =
    changed_more (changed_row c.args.moment c.args.edit.now) c.args.ids.now c.loop-id.id-index c.args.rows.now c.loop-id.rows c.change_one.new.rows c.requires c.loop-id-test.true c.loop-id.invariant c.in_ok-change_one.ensures
