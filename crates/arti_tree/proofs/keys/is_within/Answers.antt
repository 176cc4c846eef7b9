use Rattle.std.proofs.Common.{◌≡◌, ◌++◌, ℕ, true, false, List, Option, Some, None, Bor, refl, sym, ◌∙◌, rules, ⊎_elim}
use Rattle.std.specs.Prelude.{IfSome}
use Rattle.std.specs.Option.{is_some}
use Rattle.std.proofs.lemmas.Bool.{false_from_ne_true}
use Rattle.arti_rows.specs.Key.{Key, whole_of}
use Rattle.arti_rows.specs.Names.{IsKey}
use Rattle.arti_tree.specs.Renames.{is_within, may_follow}
use Rattle.arti_tree.proofs.Under.{Under, Path, under_path, under_within, path_under, within_cases, within_is}
use Rattle.arti_tree.proofs.keys.is_within.Goals as goal

module _ (top k : Key) (top_is : IsKey top) (is : IsKey k) (repo : k.repo ≡ top.repo) (ne : k ≡ top → ⊥) (path : List ℕ) (path_is : path ≡ k.path) where
  by_rest : (o : Option (Bor (List ℕ))) → (o ≡ None → (rest : List ℕ) → path ≡ whole_of top ++ rest → may_follow rest ≡ false) → IfSome o (λ rest. (path ≡ whole_of top ++ rest.now) × (may_follow rest.now ≡ true)) → is_some o ≡ is_within top k
  by_rest None none some = sym (false_from_ne_true (is_within top k) (λ w.
      ⊎_elim ne (λ (u : Under top k). let q : Path top k = path_under top k is u in let no : false ≡ true = sym (none refl q.rest (path_is ∙ q.path)) ∙ q.follows in cc) (within_cases top k is w)))
  by_rest (Some r) none some = sym (under_within top k top_is (under_path top k top_is is repo r.now (sym path_is ∙ some.0) some.1))

pub returns-then-ne : goal.returns-then-ne
returns-then-ne c =
    let top : Key = c.args.top.now in
    let k : Key = c.args.key.now in
    let differ : k.repo ≡ top.repo → ⊥ = search rules in
    sym (false_from_ne_true (is_within top k) (λ e. differ (within_is top k c.rules-2.ensures e).repo))

pub returns : goal.returns
returns c =
    let top : Key = c.args.top.now in
    let k : Key = c.args.key.now in
    let repo : k.repo ≡ top.repo = search rules in
    let ne : k ≡ top → ⊥ = search rules in
    let path : c.as_str.result.now ≡ k.path = search rules in
    let is : c.is_some.result ≡ is_some c.beneath.result = search rules in
    is ∙ by_rest top k c.rules.ensures c.rules-2.ensures repo ne c.as_str.result.now path c.beneath.result c.beneath.ensures.none c.beneath.ensures.rest
