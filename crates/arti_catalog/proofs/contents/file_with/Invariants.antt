use Rattle.std.proofs.Common.{◌≡◌, drop}
use Rattle.std.specs.List.{concat}
use Rattle.arti_tree.specs.Pieces.{lists}
use Rattle.arti_model.specs.Deploys.{file_with}
use Rattle.arti_catalog.specs.Contents.{digests_of, first_with}
use Rattle.arti_catalog.specs.Held.{items_of}
use Rattle.arti_catalog.proofs.contents.file_with.Given as goal

abbrev pub invariant-loop-block : goal.invariant-loop-block
invariant-loop-block l = first_with l.wanted l.parts.rows (concat (lists (drop l.block-index l.block-items))) ≡ file_with digests_of l.wanted (items_of l.parts.tree l.parts.rows)
