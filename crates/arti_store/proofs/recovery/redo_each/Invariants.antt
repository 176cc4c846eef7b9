use Rattle.std.proofs.Common.{◌≡◌, ◌++◌, drop}
use Rattle.std.specs.Prelude.{is_none}
use Rattle.arti_store.specs.Changes.{references_of}
use Rattle.arti_model.specs.Apply.{edited_by, edits_refusal}
use Rattle.arti_store.specs.Items.{items_of}
use Rattle.arti_store.specs.Replays.{itself}
use Rattle.arti_store.proofs.recovery.redo_each.Given as goal

abbrev pub invariant-loop-edit : goal.invariant-loop-edit
invariant-loop-edit l =
    (is_none (edits_refusal l.limits itself l.moment l.user (drop l.edit-index l.edits) (items_of l.rows)) ≡ is_none (edits_refusal l.limits itself l.moment l.user l.edits (items_of l.fn.rows)))
    × (edited_by itself l.moment l.user (drop l.edit-index l.edits) (items_of l.rows) ≡ edited_by itself l.moment l.user l.edits (items_of l.fn.rows))
    × (l.files.items ++ references_of (drop l.edit-index l.edits) ≡ l.fn.files.items ++ references_of l.edits)
