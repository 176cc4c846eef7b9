use Rattle.std.proofs.Common.{◌-◌, length}
use Rattle.std.specs.Option.{option_map_or}
use Rattle.arti_rows.specs.Key.{whole_of}
use Rattle.arti_tree.specs.Rows.{row_of}
use Rattle.arti_tree.proofs.Felling.{Left}
use Rattle.arti_tree.proofs.tree.Tree.+drop_within.Given as goal

abbrev pub decreases-drop_within : goal.decreases-drop_within
decreases-drop_within l = option_map_or (λ r. 1025 - length (whole_of r.key)) (row_of l.self.now l.id) 0

abbrev pub invariant-inside : goal.invariant-inside
invariant-inside l = Left l.fn.self l.id l.self

abbrev pub decreases-inside : goal.decreases-inside
decreases-inside l = length l.self
