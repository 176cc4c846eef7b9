-- Where only the root's own fields and properties are tested, each choice says the same.
use Rattle.std.proofs.Common.{◌≡◌, Bool, true, ◌&&◌, ◌||◌, List, [], ◌∷◌, ◌++◌, map, Option, Some, None, refl, sym, ap, ◌∙◌, arith}
use Rattle.std.specs.Prelude.{◌↔◌}
use Rattle.std.specs.List.{Contains}
use Rattle.std.proofs.lemmas.Bool.{and_parts, false≢true}
use Rattle.arti_query_model.specs.declared.fields.Rel.{Rel}
use Rattle.arti_query_model.specs.Criteria.{or_absent, options, IsChoice, every, some, leaf, Conds, nothing, part, truth, all_true, one_true}
use Rattle.arti_query_model.specs.World.{RowTest, field, pair, same, meets, Criterion, HoldsFor}
use Rattle.arti_aql_domains.specs.declared.held.Row.{Row}
use Rattle.arti_aql_domains.specs.RowValues.{row_world}
use Rattle.arti_aql_domains.specs.Alone.{is_alone, are_alone, tested, this_row}

-- ---- a choice: the first of the rows that are related

module _ (related : Row → Rel → List Row) where
  abbrev head_of : List (Option Row) → Option Row
  head_of [] = None
  head_of (o ∷ os) = o

  abbrev first : Option Row → List Rel → Option Row
  first o [] = o
  first o (rel ∷ path) = first (head_of (options related o rel)) path

  head_there : (o : Option Row) (os : List (Option Row)) → Contains (o ∷ os) o
  head_there o os = (0, omega arith, refl)

  among : (rows : List Row) → Contains (or_absent rows) (head_of (or_absent rows))
  among [] = head_there None []
  among (row ∷ rows) = head_there (Some row) (map Some rows)

  head_fits : (o : Option Row) (rel : Rel) → Contains (options related o rel) (head_of (options related o rel))
  head_fits None rel = head_there None []
  head_fits (Some row) rel = among (related row rel)

  first_below : (o : Option Row) (path : List Rel) (rel : Rel) → Contains (options related (first o path) rel) (first o (path ++ rel ∷ []))
  first_below o [] rel = head_fits o rel
  first_below o (r ∷ path) rel = first_below (head_of (options related o r)) path rel

  is_choice : (root : Row) → IsChoice related (Some root) (first (Some root))
  is_choice root = record { at_root = refl; below = first_below (Some root) }

-- ---- criteria that speak of the root alone

module _ (test : RowTest → Option Row → Bool) (choice : List Rel → Option Row) (root : Row) (at_root : choice [] ≡ Some root) where
  at_leaf : (path : List Rel) (t : RowTest) → is_alone (leaf path t) ≡ true → test t (choice path) ≡ test t (Some root)
  at_leaf [] t h = ap (test t) at_root
  at_leaf (rel ∷ path) t h = absurd (false≢true h)

  mutual
    same_truth : (c : Criterion) → is_alone c ≡ true → truth test choice c ≡ truth test (this_row root) c
    same_truth (every parts) h = same_all parts h
    same_truth (some parts) h = same_one parts h
    same_truth (leaf path t) h = at_leaf path t h

    same_all : (cs : Conds Rel RowTest) → are_alone cs ≡ true → all_true test choice cs ≡ all_true test (this_row root) cs
    same_all nothing h = refl
    same_all (part c cs) h = let p = and_parts (is_alone c) (are_alone cs) h in
        ap (λ b. b && all_true test choice cs) (same_truth c p.0) ∙ ap (λ b. truth test (this_row root) c && b) (same_all cs p.1)

    same_one : (cs : Conds Rel RowTest) → are_alone cs ≡ true → one_true test choice cs ≡ one_true test (this_row root) cs
    same_one nothing h = refl
    same_one (part c cs) h = let p = and_parts (is_alone c) (are_alone cs) h in
        ap (λ b. b || one_true test choice cs) (same_truth c p.0) ∙ ap (λ b. truth test (this_row root) c || b) (same_one cs p.1)

-- ---- tests look at no related row

module _ (related : Row → Rel → List Row) where
  same_test : (t : RowTest) (o : Option Row) → tested t o ≡ meets (row_world related) t o
  same_test (field f t) None = refl
  same_test (field f t) (Some row) = refl
  same_test (pair t) None = refl
  same_test (pair t) (Some row) = refl
  same_test (same ts) None = refl
  same_test (same ts) (Some row) = refl

  mutual
    same_tests : (root : Row) (c : Criterion) → truth tested (this_row root) c ≡ truth (meets (row_world related)) (this_row root) c
    same_tests root (every parts) = same_tests_all root parts
    same_tests root (some parts) = same_tests_one root parts
    same_tests root (leaf path t) = same_test t (Some root)

    same_tests_all : (root : Row) (cs : Conds Rel RowTest) → all_true tested (this_row root) cs ≡ all_true (meets (row_world related)) (this_row root) cs
    same_tests_all root nothing = refl
    same_tests_all root (part c cs) =
        ap (λ b. b && all_true tested (this_row root) cs) (same_tests root c) ∙ ap (λ b. truth (meets (row_world related)) (this_row root) c && b) (same_tests_all root cs)

    same_tests_one : (root : Row) (cs : Conds Rel RowTest) → one_true tested (this_row root) cs ≡ one_true (meets (row_world related)) (this_row root) cs
    same_tests_one root nothing = refl
    same_tests_one root (part c cs) =
        ap (λ b. b || one_true tested (this_row root) cs) (same_tests root c) ∙ ap (λ b. truth (meets (row_world related)) (this_row root) c || b) (same_tests_one root cs)

-- criteria that speak of the root alone hold exactly where they are true of it
pub alone-holds : (c : Criterion) (root : Row) (b : Bool) → is_alone c ≡ true → b ≡ truth tested (this_row root) c
    → (related : Row → Rel → List Row) → (b ≡ true) ↔ HoldsFor (row_world related) c root
alone-holds c root b alone is related =
    let plain : b ≡ truth (meets (row_world related)) (this_row root) c = is ∙ same_tests related root c in (
      (λ t. (first related (Some root), is_choice related root, same_truth (meets (row_world related)) (first related (Some root)) root refl c alone ∙ sym plain ∙ t)),
      (λ w. plain ∙ sym (same_truth (meets (row_world related)) w.0 root w.1.at_root c alone) ∙ w.2),
    )
