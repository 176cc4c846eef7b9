use Rattle.std.proofs.Common.{◌≡◌, ◌-◌, ℕ, ◌<◌, get_or, length, Some}
use Rattle.std.specs.List.{filter}
use Rattle.arti_rows.specs.Key.{whole_of}
use Rattle.arti_tree.specs.Rows.{Row, ids, row_of, lies_in}
use Rattle.arti_tree.proofs.Staying.{AllStay}
use Rattle.arti_tree.proofs.tree.Tree.+keys_stay.Given as goal

abbrev pub decreases-keys_stay : goal.decreases-keys_stay
decreases-keys_stay l = 1025 - length (whole_of l.folder.now)

abbrev pub invariant-loop-child : goal.invariant-loop-child
invariant-loop-child l = (k : ℕ) → k < l.child-index → (x : Row) → row_of l.self (get_or (ids (filter (lies_in l.folder) l.self)) k 0) ≡ Some x → AllStay l.self l.from l.to x
