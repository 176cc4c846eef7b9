use Rattle.std.proofs.Common.{◌≡◌, List, drop}
use Rattle.std.specs.Prelude.{All, Contains}
use Rattle.arti_rows.specs.declared.rows.FileRef.{FileRef}
use Rattle.arti_store.specs.Items.{HasFileIn, items_of}
use Rattle.arti_store.specs.Changes.{references_of}
use Rattle.arti_model.specs.Apply.{edited_by}
use Rattle.arti_store.specs.Replays.{itself}
use Rattle.arti_store.proofs.edits.do_each.Given as goal

abbrev pub invariant-loop-edit : goal.invariant-loop-edit
invariant-loop-edit l =
    (edited_by itself l.moment l.user (drop l.edit-index l.edits) (items_of l.rows) ≡ edited_by itself l.moment l.user l.edits (items_of l.fn.rows))
    × ((kept : List FileRef) → All (HasFileIn kept) l.fn.rows → All (Contains kept) (references_of l.edits) → All (HasFileIn kept) l.rows × All (Contains kept) (references_of (drop l.edit-index l.edits)))
