use Rattle.std.proofs.Common.{drop}
use Rattle.std.specs.Prelude.{Contains, ◌↔◌}
use Rattle.arti_store.specs.Changes.{references_of}
use Rattle.arti_store.proofs.commit.names.Given as goal

abbrev pub invariant-loop-edit : goal.invariant-loop-edit
invariant-loop-edit l = Contains (references_of (drop l.edit-index l.edits)) l.wanted ↔ Contains (references_of l.edits) l.wanted
