use Rattle.std.proofs.Common.{◌≡◌, ℕ, ◌<◌, ◌≤◌, length, get_or, None}
use Rattle.arti_tree.specs.Rows.{row_at}
use Rattle.arti_tree.proofs.tree.Tree.there.Given as goal

abbrev pub invariant-up : goal.invariant-up
invariant-up l = record {
  within : l.there ≤ length l.folders;
  missing : (j : ℕ) → l.there ≤ j → j < length l.folders → row_at l.self (get_or l.folders j l.key) ≡ None;
}

abbrev pub decreases-up : goal.decreases-up
decreases-up l = l.there
