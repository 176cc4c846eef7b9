use Rattle.arti_codec.specs.ChangeBytes.{HasBytes}
use Rattle.arti_model.specs.Deploys.{given_of}
use Rattle.arti_catalog.specs.Held.{items_in}
use Rattle.arti_moves.proofs.Outcomes.{finds, settled_keeps}
use Rattle.arti_moves.proofs.Kept.{file_has}
use Rattle.arti_moves.proofs.deploys.plan_found.Goals as goal

pub returns-clause-plan : goal.returns-clause-plan
returns-clause-plan c =
    rw c.settle.ensures
    (finds c.args.catalog.now.limits (items_in c.args.catalog.now) c.args.moment c.args.user.now c.args.key.now c.args.props.now c.args.digests.now c.args.file c.check-checked.result c.in_ok-change.change
    (rw c.in_ok-edit.ensures at c.in_ok-change.ensures.change) (rw (c.in_ok-change.ensures.change, c.in_ok-edit.ensures) at c.check-checked.ensures))

pub returns-clause-bytes : goal.returns-clause-bytes
returns-clause-bytes c = λ props short user.
    rw c.settle.ensures (settled_keeps HasBytes c.check-checked.result c.in_ok-change.change
    ((rw c.in_ok-edit.ensures at c.in_ok-change.ensures.bytes)
    (file_has c.args.key.now (given_of c.args.digests.now) c.args.file c.args.props.now c.key_has_bytes.ensures (c.file_has_bytes.ensures short) props) user))
