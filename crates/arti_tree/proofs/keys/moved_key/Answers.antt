use Rattle.std.proofs.Common.{◌≡◌, ◌++◌, List, ℕ, Bool, true, false, cond, Some, None, refl, sym, ap, ◌∙◌, subst, rules, ⊎_elim}
use Rattle.arti_rows.specs.Key.{Key, key_of, whole_of}
use Rattle.arti_rows.specs.Names.{IsKey, key_fault}
use Rattle.arti_tree.specs.Searched.{key}
use Rattle.std.specs.Prelude.{◌&&◌, nat_eq}
use Rattle.std.specs.Cmp.Lexicographic.{pointwise, bytes_decides}
use Rattle.arti_tree.specs.Renames.{is_within, moved, moved_whole, may_follow}
use Rattle.arti_tree.proofs.Under.{Under, Path, under_path, under_within, path_under, moved_parts, moved_top, within_itself, within_cases, key_made}
use Rattle.std.proofs.lemmas.Bool.{and_parts, false_from_ne_true}
use Rattle.arti_tree.proofs.keys.moved_key.Goals as goal

by_yes : (b : Bool) (k : Key) → b ≡ true → Some k ≡ cond b (Some k) None
by_yes b k e = sym (ap (λ t. cond t (Some k) None) e)

by_no : (b : Bool) (k : Key) → b ≡ false → None ≡ cond b (Some k) None
by_no b k e = sym (ap (λ t. cond t (Some k) None) e)

moved_yes : (from to k : Key) → is_within from k ≡ true → moved from to k ≡ key_of to.repo (moved_whole from to k)
moved_yes from to k e = ap (λ b. cond b (key_of to.repo (moved_whole from to k)) k) e

of_parts : (r s p q n m : List ℕ) → r ≡ s → p ≡ q → n ≡ m → key r p n ≡ key s q m
of_parts r s p q n m a b d =
    let one : key r p n ≡ key s p n = ap (λ (l : List ℕ). key l p n) a in
    let two : key s p n ≡ key s q n = ap (λ (l : List ℕ). key s l n) b in
    let three : key s q n ≡ key s q m = ap (λ (l : List ℕ). key s q l) d in
    one ∙ two ∙ three

-- the key itself
itself : (from to k : Key) → IsKey to → k ≡ from → Some to ≡ cond (is_within from k) (Some (moved from to k)) None
itself from to k to_is same =
    let e : is_within from k ≡ true = ap (is_within from) same ∙ within_itself from in
    ap Some (sym (moved_yes from to k e ∙ ap (λ (x : Key). key_of to.repo (moved_whole from to x)) same ∙ moved_top from to to_is)) ∙ by_yes (is_within from k) (moved from to k) e

module _ (from to k : Key) (from_is : IsKey from) (is : IsKey k) (repo : k.repo ≡ from.repo) where
  module _ (rest : List ℕ) (path : k.path ≡ whole_of from ++ rest) (follows : may_follow rest ≡ true) where
    under : Under from k
    under = under_path from k from_is is repo rest path follows

    e : is_within from k ≡ true
    e = under_within from k from_is under

    abbrev p : Path from k
    p = record { has = (path_under from k is under).has; rest = rest; path = path; follows = follows }

    parts : moved from to k ≡ record { repo = to.repo; path = whole_of to ++ rest; name = k.name }
    parts = moved_yes from to k e ∙ moved_parts from to k is p

    pub beneath_is : Some (record { repo = to.repo; path = whole_of to ++ rest; name = k.name }) ≡ cond (is_within from k) (Some (moved from to k)) None
    beneath_is = ap Some (sym parts) ∙ by_yes (is_within from k) (moved from to k) e

    pub beneath_key : (is_within from k ≡ true → key_fault to.repo (moved_whole from to k) ≡ None) → IsKey (record { repo = to.repo; path = whole_of to ++ rest; name = k.name })
    beneath_key good = subst IsKey (moved_parts from to k is p) (key_made to.repo (moved_whole from to k) (good e))

  pub not_beneath : (k ≡ from → ⊥) → ((rest : List ℕ) → k.path ≡ whole_of from ++ rest → may_follow rest ≡ false) → None ≡ cond (is_within from k) (Some (moved from to k)) None
  not_beneath ne none = by_no (is_within from k) (moved from to k) (false_from_ne_true (is_within from k) (λ w. ⊎_elim ne (λ (u : Under from k). let q : Path from k = path_under from k is u in let no : false ≡ true = sym (none q.rest q.path) ∙ q.follows in cc) (within_cases from k is w)))

same_parts : (a b : Key) → (pointwise nat_eq a.repo b.repo && (pointwise nat_eq a.path b.path && pointwise nat_eq a.name b.name)) ≡ true → a ≡ b
same_parts a b e =
    let one = and_parts (pointwise nat_eq a.repo b.repo) (pointwise nat_eq a.path b.path && pointwise nat_eq a.name b.name) e in
    let two = and_parts (pointwise nat_eq a.path b.path) (pointwise nat_eq a.name b.name) one.1 in
    of_parts a.repo b.repo a.path b.path a.name b.name ((bytes_decides a.repo b.repo).0 one.0) ((bytes_decides a.path b.path).0 two.0) ((bytes_decides a.name b.name).0 two.1)

pub returns-then-eq : goal.returns-then-eq
returns-then-eq c =
    let same : c.args.item.now ≡ c.args.from.now = same_parts c.args.item.now c.args.from.now (sym c.if-eq.ensures) in
    ap Some c.in_ok-clone.ensures.cases ∙ itself c.args.from.now c.args.to.now c.args.item.now c.rules-3.ensures same

pub invariant_of-result : goal.invariant_of-result
invariant_of-result c =
    let rest = c.in-Some.rest.now in
    let path : c.args.item.now.path ≡ whole_of c.args.from.now ++ rest = search rules in
    let follows : may_follow rest ≡ true = search rules in
    let repo_is : c.args.to.now.repo ≡ c.in_ok-clone-in-Some.field-0 = search rules in
    let name_is : c.args.item.now.name ≡ c.in_ok-clone-in-Some-2.field-0 = search rules in
    let path_is : whole_of c.args.to.now ++ rest ≡ c.path.inside.text.bytes.items = sym (c.path.view_is ∙ c.in_ok-path-in-Some.ensures ∙ ap (λ (l : List ℕ). l ++ rest) c.requires.to_whole) in
    let is_key : IsKey (record { repo = c.args.to.now.repo; path = whole_of c.args.to.now ++ rest; name = c.args.item.now.name }) =
    beneath_key c.args.from.now c.args.to.now c.args.item.now c.rules-2.ensures c.rules.ensures c.requires.repo rest path follows c.requires.good in
    subst IsKey (of_parts c.args.to.now.repo c.in_ok-clone-in-Some.field-0 (whole_of c.args.to.now ++ rest) c.path.inside.text.bytes.items c.args.item.now.name c.in_ok-clone-in-Some-2.field-0 repo_is path_is name_is) is_key

pub returns-in_ok-clone-in-Some-2 : goal.returns-in_ok-clone-in-Some-2
returns-in_ok-clone-in-Some-2 c =
    let rest = c.in-Some.rest.now in
    let path : c.args.item.now.path ≡ whole_of c.args.from.now ++ rest = search rules in
    let follows : may_follow rest ≡ true = search rules in
    let repo_is : c.args.to.now.repo ≡ c.in_ok-clone-in-Some.field-0 = search rules in
    let name_is : c.args.item.now.name ≡ c.in_ok-clone-in-Some-2.field-0 = search rules in
    let path_is : whole_of c.args.to.now ++ rest ≡ c.path.inside.text.bytes.items = sym (c.path.view_is ∙ c.in_ok-path-in-Some.ensures ∙ ap (λ (l : List ℕ). l ++ rest) c.requires.to_whole) in
    let same = of_parts c.args.to.now.repo c.in_ok-clone-in-Some.field-0 (whole_of c.args.to.now ++ rest) c.path.inside.text.bytes.items c.args.item.now.name c.in_ok-clone-in-Some-2.field-0 repo_is path_is name_is in
    ap Some (sym same) ∙ beneath_is c.args.from.now c.args.to.now c.args.item.now c.rules-2.ensures c.rules.ensures c.requires.repo rest path follows

pub returns-in-None : goal.returns-in-None
returns-in-None c =
    let ne : c.args.item.now ≡ c.args.from.now → ⊥ = search rules in
    let item_path : c.as_str.result.now ≡ c.args.item.now.path = search rules in
    not_beneath c.args.from.now c.args.to.now c.args.item.now c.rules-2.ensures c.rules.ensures c.requires.repo ne
    (λ rest e. c.in-None.ensures.none refl rest (item_path ∙ e))
