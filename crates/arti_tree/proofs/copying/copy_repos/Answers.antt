use Rattle.std.proofs.Common.{◌≡◌, ℕ, List, String, Global, ap}
use Rattle.std.specs.Prelude.{string_bytes}
use Rattle.std.specs.Ordering.{nat_cmp, is_eq}
use Rattle.std.specs.Cmp.Lexicographic.{slice_cmp}
use Rattle.arti_tree.specs.Repos.{list_of}
use Rattle.arti_tree.proofs.Copied.{if_copied, list_copied}
use Rattle.arti_tree.proofs.copying.copy_repos.Goals as goal

pub returns : goal.returns
returns c = if_copied c.clone.result _ (λ n. (q : List ℕ) → list_of n q ≡ list_of c.args.repos.now q) _ c.clone.ensures.cases (λ n copies q.
    list_copied (λ (k l : String Global). string_bytes l ≡ string_bytes k) (λ (x y : ℕ). y ≡ x) (λ x y e. e) (λ (k : String Global). is_eq (slice_cmp nat_cmp q (string_bytes k)))
    c.args.repos.now.entries n.entries (λ k l e. ap (λ (t : List ℕ). is_eq (slice_cmp nat_cmp q t)) e) copies)
