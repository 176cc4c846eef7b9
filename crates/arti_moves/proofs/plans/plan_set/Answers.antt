use Rattle.arti_rows.specs.declared.edits.Edit.TheVariants as edits
use Rattle.arti_codec.specs.ChangeBytes.{HasBytes}
use Rattle.arti_model.specs.DecideItems.{done}
use Rattle.arti_catalog.specs.Held.{items_in}
use Rattle.arti_moves.proofs.Outcomes.{makes, settled_keeps}
use Rattle.arti_moves.proofs.Kept.{set_has}
use Rattle.arti_moves.proofs.plans.plan_set.Goals as goal

pub returns-clause-plan : goal.returns-clause-plan
returns-clause-plan c =
    rw c.settle.ensures
    (makes c.args.catalog.now.limits (items_in c.args.catalog.now) c.args.moment c.args.user.now (edits.SetProps c.args.key.now c.args.deep c.args.props.now) done c.check-checked.result c.in_ok-change.change
    (rw c.in_ok-edit.ensures at c.in_ok-change.ensures.change) (rw (c.in_ok-change.ensures.change, c.in_ok-edit.ensures) at c.check-checked.ensures))

pub returns-clause-bytes : goal.returns-clause-bytes
returns-clause-bytes c = λ props short. rw c.settle.ensures (settled_keeps HasBytes c.check-checked.result c.in_ok-change.change ((rw c.in_ok-edit.ensures at c.in_ok-change.ensures.bytes) (set_has c.args.key.now c.args.deep c.args.props.now c.key_has_bytes.ensures props) short))
