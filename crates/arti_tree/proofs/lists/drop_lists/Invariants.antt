use Rattle.std.proofs.Common.{◌≡◌, ℕ, [], cond, drop}
use Rattle.arti_tree.specs.Children.{list_at}
use Rattle.arti_tree.specs.Renames.{has}
use Rattle.arti_tree.proofs.lists.drop_lists.Given as goal

abbrev pub invariant-loop-id : goal.invariant-loop-id
invariant-loop-id l = (i : ℕ) → cond (has (drop l.id-index l.ids) i) [] (list_at l.children i) ≡ cond (has l.ids i) [] (list_at l.fn.children i)
