use Rattle.std.proofs.Common.{◌≡◌, Some, drop}
use Rattle.std.specs.Prelude.{All}
use Rattle.arti_store.specs.Changes.{references_of}
use Rattle.arti_store_tests.proofs.store.name_only.Given as goal

abbrev pub invariant-loop-edit : goal.invariant-loop-edit
invariant-loop-edit l = All (λ file. l.wanted ≡ Some file) (references_of (drop l.edit-index l.edits)) → All (λ file. l.wanted ≡ Some file) (references_of l.edits)
