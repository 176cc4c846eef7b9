use Rattle.std.proofs.Common.{◌≡◌, ◌++◌}
use Rattle.std.specs.Prelude.{map, filter, not}
use Rattle.std.specs.Vec.Iter.{into_iter_items}
use Rattle.arti_model.specs.Store.{has_item}
use Rattle.arti_catalog.specs.Held.{items_of, folder_row}
use Rattle.arti_catalog.proofs.edits.made.Given as goal

abbrev pub invariant-loop-folder : goal.invariant-loop-folder
invariant-loop-folder l =
    (goal.iterator-loop-folder).can_next l.folder-iterator × (goal.iterator-loop-folder).is_finite l.folder-iterator
    × (l.news.items ++ map (folder_row l.moment l.user) (filter (λ folder. not (has_item (items_of l.parts.tree l.parts.rows) folder)) (into_iter_items l.folder-iterator)) ≡ map (folder_row l.moment l.user) (filter (λ folder. not (has_item (items_of l.parts.tree l.parts.rows) folder)) l.fn.folders.items))
