use Rattle.std.proofs.Common.{◌≡◌, ◌≤◌, take, length}
use Rattle.std.specs.Prelude.{filter, not}
use Rattle.arti_model.specs.Store.{has_item}
use Rattle.arti_catalog.specs.Held.{items_of}
use Rattle.arti_catalog.proofs.judging.count_missing.Given as goal

abbrev pub invariant-loop-key : goal.invariant-loop-key
invariant-loop-key l = (l.count ≡ length (filter (λ key. not (has_item (items_of l.parts.tree l.parts.rows) key)) (take l.key-index l.keys))) × (l.count ≤ l.key-index)
