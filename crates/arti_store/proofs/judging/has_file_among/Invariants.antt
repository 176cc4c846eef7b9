use Rattle.std.proofs.Common.{◌≡◌, drop}
use Rattle.std.specs.List.{list_any}
use Rattle.arti_model.specs.Store.{has_file}
use Rattle.arti_store.specs.Items.{items_of}
use Rattle.arti_store.proofs.judging.has_file_among.Given as goal

abbrev pub invariant-loop-key : goal.invariant-loop-key
invariant-loop-key l = list_any (has_file (items_of l.rows)) (drop l.key-index l.keys) ≡ list_any (has_file (items_of l.rows)) l.keys
