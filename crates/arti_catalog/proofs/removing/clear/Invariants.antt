use Rattle.std.proofs.Common.{◌≡◌, ℕ, false}
use Rattle.arti_tree.specs.Renames.{has}
use Rattle.arti_catalog.specs.Held.{at}
use Rattle.arti_catalog.proofs.removing.clear.Given as goal

abbrev pub invariant-loop-id : goal.invariant-loop-id
invariant-loop-id l = (i : ℕ) → has l.ids i ≡ false → at l.rows i ≡ at l.fn.rows i
