use Rattle.std.proofs.Common.{◌≡◌, ℕ, ap}
use Rattle.std.specs.Ordering.{nat_cmp}
use Rattle.std.specs.BTreeMap.{is_at}
use Rattle.arti_tree.specs.Children.{list_at}
use Rattle.arti_tree.proofs.Copied.{if_copied, list_copied}
use Rattle.arti_tree.proofs.copying.copy_children.Goals as goal

pub returns : goal.returns
returns c = if_copied c.clone.result _ (λ n. (i : ℕ) → list_at n i ≡ list_at c.args.children.now i) _ c.clone.ensures.cases (λ n copies i.
    list_copied (λ (x y : ℕ). y ≡ x) (λ (x y : ℕ). y ≡ x) (λ x y e. e) (is_at (nat_cmp i)) c.args.children.now.entries n.entries (λ k l e. ap (is_at (nat_cmp i)) e) copies)
