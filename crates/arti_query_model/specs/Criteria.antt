-- Criteria over related rows: a criterion holds for a row where some choice of related rows makes it true.
use Rattle.std.specs.Prelude.{◌≡◌, Bool, true, false, ◌&&◌, ◌||◌, List, [], ◌∷◌, ◌++◌, map, Option, Some, None}
use Rattle.std.specs.List.{Contains}

-- ---- choices

-- these rows, or Absent alone where there is none
abbrev pub or_absent : {Row : Type 0} → List Row → List (Option Row)
or_absent [] = None ∷ []
or_absent (row ∷ rows) = map Some (row ∷ rows)

-- what a choice may give below a row: one of the related rows, and Absent exactly where the row is Absent or has none
abbrev pub options : {Row Rel : Type 0} → (Row → Rel → List Row) → Option Row → Rel → List (Option Row)
options related None rel = None ∷ []
options related (Some row) rel = or_absent (related row rel)

-- A choice gives a row, or Absent, to each path of relations: the root to the empty path, and to each other path one that is related to the row
-- of the path without its last relation.
pub record IsChoice {Row Rel : Type 0} (related : Row → Rel → List Row) (root : Option Row) (choice : List Rel → Option Row) : Type 0 where
  pub at_root : choice [] ≡ root
  pub below : (path : List Rel) (rel : Rel) → Contains (options related (choice path) rel) (choice (path ++ rel ∷ []))

-- ---- criteria

mutual
  -- tests of the rows at paths, put together by and and or
  pub data Cond (Rel Test : Type 0) : Type 0 where
    every : Conds Rel Test → Cond Rel Test
    some : Conds Rel Test → Cond Rel Test
    leaf : List Rel → Test → Cond Rel Test

  pub data Conds (Rel Test : Type 0) : Type 0 where
    nothing : Conds Rel Test
    part : Cond Rel Test → Conds Rel Test → Conds Rel Test

abbrev mutual
  -- whether a criterion is true, given what a test says of a row, and the row at each path
  pub truth : {Row Rel Test : Type 0} → (Test → Option Row → Bool) → (List Rel → Option Row) → Cond Rel Test → Bool
  truth meets choice (every parts) = all_true meets choice parts
  truth meets choice (some parts) = one_true meets choice parts
  truth meets choice (leaf path test) = meets test (choice path)

  pub all_true : {Row Rel Test : Type 0} → (Test → Option Row → Bool) → (List Rel → Option Row) → Conds Rel Test → Bool
  all_true meets choice nothing = true
  all_true meets choice (part c parts) = truth meets choice c && all_true meets choice parts

  pub one_true : {Row Rel Test : Type 0} → (Test → Option Row → Bool) → (List Rel → Option Row) → Conds Rel Test → Bool
  one_true meets choice nothing = false
  one_true meets choice (part c parts) = truth meets choice c || one_true meets choice parts

-- a criterion holds for a root where some choice makes it true
abbrev pub Holds : {Row Rel Test : Type 0} → (Row → Rel → List Row) → (Test → Option Row → Bool) → Cond Rel Test → Row → Type 0
Holds {Row} {Rel} related meets cond root = (choice : List Rel → Option Row) × IsChoice related (Some root) choice × (truth meets choice cond ≡ true)

-- whether it is true of a row by itself, where no path has a relation
abbrev pub holds_alone : {Row Rel Test : Type 0} → (Test → Option Row → Bool) → Cond Rel Test → Row → Bool
holds_alone meets cond root = truth meets (λ path. Some root) cond
