-- Rows of which each changes by itself and keeps its id.
use Rattle.std.proofs.Common.{◌≡◌, ℕ, ◌+◌, ◌≤◌, Bool, true, false, cond, eqb, List, [], ◌∷◌, Option, Some, None, option_map, refl, sym, ap, ◌∙◌, subst, arith}
use Rattle.std.specs.Prelude.{map}
use Rattle.std.specs.List.{find}
use Rattle.arti_rows.specs.Key.{Key, same_key}
use Rattle.arti_tree.specs.Rows.{Row, ids, row_of, row_at, IsLive, RowsFrom}
use Rattle.arti_tree.specs.Renames.{Differ}
use Rattle.arti_tree.proofs.Rises.{found_live, found_least}
use Rattle.std.proofs.lemmas.Bool.{eq-eqb, ne_eqb}
use Rattle.arti_rows.specs.KeyLaws.{same_key-true, same_key-refl}

pub some_rows : (x y : Row) → Some x ≡ Some y → x ≡ y
some_rows x y e = cc

-- live rows of one id are one
pub one_id : (rows : List Row) (x y : Row) → IsLive rows x → IsLive rows y → x.id ≡ y.id → x ≡ y
one_id rows x y is to e = some_rows x y (sym is ∙ ap (row_of rows) e ∙ to)

-- and so are those of one key
pub one_key : (rows : List Row) (x y : Row) → Differ rows → IsLive rows x → IsLive rows y → x.key ≡ y.key → x ≡ y
one_key rows x y differ is to e = some_rows x y (sym (differ x is) ∙ ap (row_at rows) e ∙ differ y to)

-- both ways
pub both_ways : (a b : Bool) → (a ≡ true → b ≡ true) → (b ≡ true → a ≡ true) → a ≡ b
both_ways true b f g = sym (f refl)
both_ways false true f g = g refl
both_ways false false f g = refl

pub head_live : (x : Row) (rows : List Row) → IsLive (x ∷ rows) x
head_live x rows = ap (λ b. cond b (Some x) (row_of rows x.id)) (eq-eqb x.id x.id refl)

pub tail_live : (n : ℕ) (y x : Row) (rows : List Row) → RowsFrom n (y ∷ rows) → IsLive rows x → IsLive (y ∷ rows) x
tail_live n y x rows up live =
    let above : y.id + 1 ≤ x.id = found_least (λ r. eqb r.id x.id) (y.id + 1) rows x up.1 live in
    ap (λ b. cond b (Some y) (row_of rows x.id)) (ne_eqb y.id x.id (λ e. omega arith)) ∙ live

-- tests that agree on live rows find the same
pub find_same : (p q : Row → Bool) (n : ℕ) (rows : List Row) → RowsFrom n rows → ((x : Row) → IsLive rows x → p x ≡ q x) → find p rows ≡ find q rows
find_same p q n [] up same = refl
find_same p q n (y ∷ rows) up same =
    ap (λ b. cond b (Some y) (find p rows)) (same y (head_live y rows)) ∙ ap (λ o. cond (q y) (Some y) o) (find_same p q (y.id + 1) rows up.1 (λ x live. same x (tail_live n y x rows up live)))

-- changes that agree on live rows are the same
pub map_same : (g h : Row → Row) (n : ℕ) (rows : List Row) → RowsFrom n rows → ((x : Row) → IsLive rows x → g x ≡ h x) → map g rows ≡ map h rows
map_same g h n [] up same = refl
map_same g h n (y ∷ rows) up same =
    ap (λ (r : Row). r ∷ map g rows) (same y (head_live y rows)) ∙ ap (λ (l : List Row). h y ∷ l) (map_same g h (y.id + 1) rows up.1 (λ x live. same x (tail_live n y x rows up live)))

-- a live row as it was
pub record Was (g : Row → Row) (rows : List Row) (x : Row) : Type 0 where
  pub row : Row
  pub live : IsLive rows row
  pub is : g row ≡ x

module _ (g : Row → Row) (keeps : (r : Row) → (g r).id ≡ r.id) where
  pub ids_map : (rows : List Row) → ids (map g rows) ≡ ids rows
  ids_map [] = refl
  ids_map (x ∷ rows) = ap (λ (n : ℕ). n ∷ ids (map g rows)) (keeps x) ∙ ap (λ (l : List ℕ). x.id ∷ l) (ids_map rows)

  pub rows_from_map : (n : ℕ) (rows : List Row) → RowsFrom n rows → RowsFrom n (map g rows)
  rows_from_map n [] up = tt
  rows_from_map n (x ∷ rows) up = (omega (arith, up.0, keeps x), subst (λ (m : ℕ). RowsFrom (m + 1) (map g rows)) (sym (keeps x)) (rows_from_map (x.id + 1) rows up.1))

  found_by : (b : Bool) (x : Row) (o p : Option Row) → p ≡ option_map g o → cond b (Some (g x)) p ≡ option_map g (cond b (Some x) o)
  found_by true x o p e = refl
  found_by false x o p e = e

  pub find_map : (q : Row → Bool) (rows : List Row) → find q (map g rows) ≡ option_map g (find (λ r. q (g r)) rows)
  find_map q [] = refl
  find_map q (x ∷ rows) = found_by (q (g x)) x (find (λ r. q (g r)) rows) (find q (map g rows)) (find_map q rows)

  pub row_of_map : (rows : List Row) (i : ℕ) → row_of (map g rows) i ≡ option_map g (row_of rows i)
  row_of_map [] i = refl
  row_of_map (x ∷ rows) i = ap (λ (n : ℕ). cond (eqb n i) (Some (g x)) (row_of (map g rows) i)) (keeps x) ∙ found_by (eqb x.id i) x (row_of rows i) (row_of (map g rows) i) (row_of_map rows i)

  pub live_map : (rows : List Row) (x : Row) → IsLive rows x → IsLive (map g rows) (g x)
  live_map rows x is = ap (row_of (map g rows)) (keeps x) ∙ row_of_map rows x.id ∙ ap (option_map g) is

  module _ (rows : List Row) (up : RowsFrom 0 rows) where
    was_by : (o : Option Row) (x : Row) → row_of rows x.id ≡ o → option_map g o ≡ Some x → Was g rows x
    was_by None x is e = cc
    was_by (Some y) x is e = record { row = y; live = found_live (λ r. eqb r.id x.id) 0 rows y up is; is = some_rows (g y) x e }

    pub was : (x : Row) → IsLive (map g rows) x → Was g rows x
    was x is = was_by (row_of rows x.id) x refl (sym (row_of_map rows x.id) ∙ is)

    -- where the tests of keys agree, the row of the new key is that of the old one
    pub at_map : (k m : Key) → ((x : Row) → IsLive rows x → same_key (g x).key m ≡ same_key x.key k) → row_at (map g rows) m ≡ option_map g (row_at rows k)
    at_map k m same = find_map (λ r. same_key r.key m) rows ∙ ap (option_map g) (find_same (λ r. same_key (g r).key m) (λ r. same_key r.key k) 0 rows up same)

    module _ (differ : Differ rows) (apart : (x y : Row) → IsLive rows x → IsLive rows y → (g x).key ≡ (g y).key → x ≡ y) where
      pub same_new : (x y : Row) → IsLive rows x → IsLive rows y → same_key (g x).key (g y).key ≡ same_key x.key y.key
      same_new x y is to = both_ways (same_key (g x).key (g y).key) (same_key x.key y.key)
          (λ e. ap (λ (r : Row). same_key r.key y.key) (apart x y is to (same_key-true (g x).key (g y).key e)) ∙ same_key-refl y.key)
          (λ e. ap (λ (r : Row). same_key (g r).key (g y).key) (one_key rows x y differ is to (same_key-true x.key y.key e)) ∙ same_key-refl (g y).key)

      pub at_new : (x : Row) → IsLive rows x → row_at (map g rows) (g x).key ≡ Some (g x)
      at_new x is = at_map x.key (g x).key (λ y to. same_new y x to is) ∙ ap (option_map g) (differ x is)

      pub differ_new : Differ (map g rows)
      differ_new x is = let w = was x is in subst (λ (r : Row). row_at (map g rows) r.key ≡ Some r) w.is (at_new w.row w.live)
