use Rattle.std.proofs.Common.{◌≡◌, Some, sym, rules}
use Rattle.std.specs.Prelude.{All}
use Rattle.arti_rows.specs.declared.rows.FileRef.{FileRef}
use Rattle.arti_store.specs.Changes.{edit_references}
use Rattle.arti_store_tests.proofs.Naming.{name_on}
use Rattle.arti_store_tests.proofs.store.name_only.Goals as goal

pub loop-edit-preserved : goal.loop-edit-preserved
loop-edit-preserved c =
    let here : All (λ (file : FileRef). c.args.wanted ≡ Some file) (edit_references c.edit-item.result) = search rules in
    name_on (λ (file : FileRef). c.args.wanted ≡ Some file) c.args.edits.now c.loop-edit.edit-index c.edit-item.result c.loop-edit-test.true (sym c.edit-item.is) here c.loop-edit.invariant
