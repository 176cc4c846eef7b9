use Rattle.std.proofs.Common.{sym, rules}
use Rattle.std.specs.Prelude.{Contains}
use Rattle.arti_store.specs.Changes.{edit_references}
use Rattle.arti_store.proofs.References.{look_on}
use Rattle.arti_store.proofs.commit.names.Goals as goal

pub loop-edit-preserved : goal.loop-edit-preserved
loop-edit-preserved c =
    let none : Contains (edit_references c.edit-item.result) c.args.wanted.now → ⊥ = search rules in
    look_on c.args.edits.now c.loop-edit.edit-index c.edit-item.result c.args.wanted.now c.loop-edit-test.true (sym c.edit-item.is) none c.loop-edit.invariant
