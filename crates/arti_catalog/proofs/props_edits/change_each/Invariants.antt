use Rattle.std.proofs.Common.{take}
use Rattle.arti_catalog.specs.PropsEdits.{AllChanged, changed_row}
use Rattle.arti_catalog.proofs.props_edits.change_each.Given as goal

abbrev pub invariant-loop-id : goal.invariant-loop-id
invariant-loop-id l = AllChanged (take l.id-index l.ids) (changed_row l.moment l.edit) l.fn.rows l.rows
