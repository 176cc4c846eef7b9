use Rattle.std.proofs.Common.{◌≡◌, drop}
use Rattle.std.specs.List.{find}
use Rattle.arti_model.specs.Store.{has_file}
use Rattle.arti_catalog.specs.Held.{items_of}
use Rattle.arti_catalog.proofs.judging.file_among.Given as goal

abbrev pub invariant-loop-key : goal.invariant-loop-key
invariant-loop-key l = find (has_file (items_of l.parts.tree l.parts.rows)) (drop l.key-index l.keys) ≡ find (has_file (items_of l.parts.tree l.parts.rows)) l.keys
