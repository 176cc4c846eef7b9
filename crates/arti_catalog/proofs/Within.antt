-- The ids within a key.
use Rattle.std.proofs.Common.{◌≡◌, zero, suc, ℕ, ◌+◌, ◌<◌, ◌≤◌, ⊎_elim, Bool, true, false, cond, eqb, List, [], ◌∷◌, length, get_or, take, Option, Some, None, refl, sym, ap, subst, ◌∙◌, arith}
use Rattle.std.specs.Prelude.{◌||◌, filter, is_some, option_map, IfSome}
use Rattle.std.specs.List.{list_any}
use Rattle.std.specs.Option.{option_map_or}
use Rattle.std.proofs.lemmas.Bool.{cases_lt, eqb-true, eqb-false, eq-eqb, ne_eqb}
use Rattle.std.proofs.lemmas.List.{take_more}
use Rattle.std.proofs.lemmas.List.Folds.{list_any-append}
use Rattle.arti_rows.specs.Key.{Key, same_key}
use Rattle.arti_rows.specs.KeyLaws.{same_key-true}
use Rattle.arti_rows.specs.declared.rows.ItemRow.{ItemRow}
use Rattle.arti_tree.specs.Ids.{AscendFrom}
use Rattle.arti_tree.specs.Rows.{Row, ids, row_of, row_at, RowsFrom, IsLive, IsTree}
use Rattle.arti_tree.specs.Renames.{is_within, has, AreWithin}
use Rattle.arti_model.specs.Store.{has_item}
use Rattle.arti_catalog.specs.Held.{Fits, items_of}
use Rattle.arti_catalog.proofs.Found.{found_live, has_is, looked_up}
use Rattle.arti_catalog.proofs.Setting.{found_passes}

-- ---- ids that ascend

has_below : (n i : ℕ) (xs : List ℕ) → AscendFrom n xs → i < n → has xs i ≡ false
has_below n i [] up lt = refl
has_below n i (x ∷ xs) up lt =
    ap (λ b. b || has xs i) (ne_eqb x i (λ e. omega (arith, up.0, lt, e))) ∙ has_below (x + 1) i xs up.1 (omega (arith, up.0, lt))

pub has_first : (x : ℕ) (xs : List ℕ) → has (x ∷ xs) x ≡ true
has_first x xs = ap (λ b. b || has xs x) (eq-eqb x x refl)

rest_by : (b : Bool) (x i : ℕ) (xs ys : List ℕ) → eqb x i ≡ b → AscendFrom (x + 1) xs → AscendFrom (x + 1) ys → (b || has xs i) ≡ (b || has ys i) → has xs i ≡ has ys i
rest_by true x i xs ys is up vp same = let e : x ≡ i = eqb-true x i is in has_below (x + 1) i xs up (omega (arith, e)) ∙ sym (has_below (x + 1) i ys vp (omega (arith, e)))
rest_by false x i xs ys is up vp same = same

first_same : (n x y : ℕ) (xs ys : List ℕ) → AscendFrom n (x ∷ xs) → AscendFrom n (y ∷ ys) → ((i : ℕ) → has (x ∷ xs) i ≡ has (y ∷ ys) i) → x ≡ y
first_same n x y xs ys up vp same = ⊎_elim
    (λ (lt : x < y). absurd (cc (same x, has_first x xs, has_below y x (y ∷ ys) (omega arith, vp.1) lt)))
    (λ (ge : y ≤ x). ⊎_elim (λ (lt : y < x). absurd (cc (same y, has_first y ys, has_below x y (x ∷ xs) (omega arith, up.1) lt))) (λ (le : x ≤ y). omega (arith, ge, le)) (cases_lt y x))
    (cases_lt x y)

-- lists that ascend and have the same ids are the same
pub same_ids : (n : ℕ) (xs ys : List ℕ) → AscendFrom n xs → AscendFrom n ys → ((i : ℕ) → has xs i ≡ has ys i) → xs ≡ ys
same_ids n [] [] up vp same = refl
same_ids n [] (y ∷ ys) up vp same = cc (same y, has_first y ys)
same_ids n (x ∷ xs) [] up vp same = cc (same x, has_first x xs)
same_ids n (x ∷ xs) (y ∷ ys) up vp same =
    let e : y ≡ x = sym (first_same n x y xs ys up vp same) in
    let P : ℕ → Type 0 = λ z. AscendFrom (z + 1) ys in
    let Q : ℕ → Type 0 = λ z. (i : ℕ) → has (x ∷ xs) i ≡ has (z ∷ ys) i in
    let wp : AscendFrom (x + 1) ys = subst P e vp.1 in
    let agree : (i : ℕ) → has (x ∷ xs) i ≡ has (x ∷ ys) i = subst Q e same in
    let rest : xs ≡ ys = same_ids (x + 1) xs ys up.1 wp (λ i. rest_by (eqb x i) x i xs ys refl up.1 wp (agree i)) in
    ap (λ (l : List ℕ). x ∷ l) rest ∙ ap (λ z. z ∷ ys) (sym e)

ascend_ge : (n k : ℕ) (xs : List ℕ) → AscendFrom n xs → k < length xs → n ≤ get_or xs k 0
ascend_ge n k [] up lt = absurd (omega arith)
ascend_ge n zero (x ∷ xs) up lt = up.0
ascend_ge n (suc k) (x ∷ xs) up lt = omega (arith, up.0, ascend_ge (x + 1) k xs up.1 (omega arith))

-- an id isn't among those before it
pub ascend_apart : (n k : ℕ) (xs : List ℕ) → AscendFrom n xs → k < length xs → has (take k xs) (get_or xs k 0) ≡ false
ascend_apart n k [] up lt = absurd (omega arith)
ascend_apart n zero (x ∷ xs) up lt = refl
ascend_apart n (suc k) (x ∷ xs) up lt =
    let le : x + 1 ≤ get_or xs k 0 = ascend_ge (x + 1) k xs up.1 (omega arith) in
    ap (λ b. b || has (take k xs) (get_or xs k 0)) (ne_eqb x (get_or xs k 0) (λ e. omega (arith, le, e))) ∙ ascend_apart (x + 1) k xs up.1 (omega arith)

pub has_more : (k i : ℕ) (xs : List ℕ) → k < length xs → has (take (k + 1) xs) i ≡ (has (take k xs) i || eqb (get_or xs k 0) i)
has_more k i xs lt =
    let p : ℕ → Bool = λ x. eqb x i in
    ap (list_any p) (take_more xs k 0 lt) ∙ list_any-append p (take k xs) (get_or xs k 0 ∷ []) ∙ ap (λ b. has (take k xs) i || b) (or_false (eqb (get_or xs k 0) i))
  where
    or_false : (b : Bool) → (b || false) ≡ b
    or_false true = refl
    or_false false = refl

-- ---- ids of rows

ascend_lower : (n m : ℕ) (xs : List ℕ) → m ≤ n → AscendFrom n xs → AscendFrom m xs
ascend_lower n m [] le up = tt
ascend_lower n m (x ∷ xs) le up = (omega (arith, le, up.0), up.1)

ascend_by : (b : Bool) (r : Row) (rest : List Row) (n : ℕ) → n ≤ r.id → AscendFrom (r.id + 1) (ids rest) → AscendFrom n (ids (cond b (r ∷ rest) rest))
ascend_by true r rest n le up = (le, up)
ascend_by false r rest n le up = ascend_lower (r.id + 1) n (ids rest) (omega (arith, le)) up

pub ids_ascend : (p : Row → Bool) (n : ℕ) (rows : List Row) → RowsFrom n rows → AscendFrom n (ids (filter p rows))
ids_ascend p n [] up = tt
ids_ascend p n (r ∷ rows) up = ascend_by (p r) r (filter p rows) n up.0 (ids_ascend p (r.id + 1) rows up.1)

has_by : (b e : Bool) (p : Row → Bool) (r : Row) (i : ℕ) (rest : List Row) (found : Option Row) → p r ≡ b → eqb r.id i ≡ e → (e ≡ true → has (ids rest) i ≡ false) → has (ids rest) i ≡ option_map_or p found false
    → has (ids (cond b (r ∷ rest) rest)) i ≡ option_map_or p (cond e (Some r) found) false
has_by true true p r i rest found is at none more = ap (λ c. c || has (ids rest) i) at ∙ sym is
has_by true false p r i rest found is at none more = ap (λ c. c || has (ids rest) i) at ∙ more
has_by false true p r i rest found is at none more = none refl ∙ sym is
has_by false false p r i rest found is at none more = more

pub has_row : (p : Row → Bool) (n : ℕ) (rows : List Row) (i : ℕ) → RowsFrom n rows → has (ids (filter p rows)) i ≡ option_map_or p (row_of rows i) false
has_row p n [] i up = refl
has_row p n (r ∷ rows) i up =
    has_by (p r) (eqb r.id i) p r i (filter p rows) (row_of rows i) refl refl
    (λ here. has_below (r.id + 1) i (ids (filter p rows)) (ids_ascend p (r.id + 1) rows up.1) (let e : r.id ≡ i = eqb-true r.id i here in omega (arith, e)))
    (has_row p (r.id + 1) rows i up.1)

-- the ids within a key are those of the rows within it
pub within_is : (tree : List Row) (top : Key) (found : List ℕ) → IsTree tree → AreWithin tree top found → AscendFrom 0 found → found ≡ ids (filter (λ r. is_within top r.key) tree)
within_is tree top found rules within up =
    let p : Row → Bool = λ r. is_within top r.key in
    same_ids 0 found (ids (filter p tree)) up (ids_ascend p 0 tree rules.ascend) (λ i. within.each i ∙ sym (has_row p 0 tree i rules.ascend))

pub has_at : (found : List ℕ) (k : ℕ) → k < length found → has found (get_or found k 0) ≡ true
has_at [] k lt = absurd (omega arith)
has_at (x ∷ found) zero lt = has_first x found
has_at (x ∷ found) (suc k) lt = ap (λ b. eqb x (get_or found k 0) || b) (has_at found k (omega arith)) ∙ or_true (eqb x (get_or found k 0))
  where
    or_true : (b : Bool) → (b || true) ≡ true
    or_true true = refl
    or_true false = refl

-- ---- the ids of the row of a key, and of those beneath it

module _ (tree : List Row) (rows : List (Option ItemRow)) (key : Key) (fits : Fits tree rows) where
  -- of a key that is there
  pub there_within : (id : ℕ) → Some id ≡ option_map (λ r. r.id) (row_at tree key) → (found : List ℕ) → IfSome (row_of tree id) (λ r. AreWithin tree r.key found) → AscendFrom 0 found
      → found ≡ ids (filter (λ r. is_within key r.key) tree)
  there_within id is found within up =
      let it = looked_up tree rows key fits id is in
      let here : it.0.key ≡ key = same_key-true it.0.key key (found_passes (λ x. same_key x.key key) tree it.0 it.1) in
      let P : Option Row → Type 0 = λ o. IfSome o (λ r. AreWithin tree r.key found) in
      let Q : Key → Type 0 = λ k. AreWithin tree k found in
      within_is tree key found fits.rules (subst Q here (subst P it.3 within)) up

  one_by : (r : Row) → row_at tree key ≡ Some r → (i : ℕ) (o : Option Row) → row_of tree i ≡ o → (b : Bool) → eqb r.id i ≡ b → (b || false) ≡ option_map_or (λ x. same_key x.key key) o false
  one_by r here i None is true at =
      let live : row_of tree r.id ≡ Some r = found_live (λ x. same_key x.key key) 0 tree r fits.rules.ascend here in
      let e : r.id ≡ i = eqb-true r.id i at in
      let none : Some r ≡ None = sym live ∙ ap (row_of tree) e ∙ is in
      cc
  one_by r here i None is false at = refl
  one_by r here i (Some x) is true at =
      let live : row_of tree r.id ≡ Some r = found_live (λ x. same_key x.key key) 0 tree r fits.rules.ascend here in
      let e : r.id ≡ i = eqb-true r.id i at in
      let both : Some r ≡ Some x = sym live ∙ ap (row_of tree) e ∙ is in
      let same : r ≡ x = cc in
      sym (ap (λ (y : Row). same_key y.key key) (sym same) ∙ found_passes (λ y. same_key y.key key) tree r here)
  one_by r here i (Some x) is false at = by (same_key x.key key) refl
    where
      at_i : x.id ≡ i
      at_i = eqb-true x.id i (found_passes (λ y. eqb y.id i) tree x is)

      by : (b : Bool) → same_key x.key key ≡ b → false ≡ b
      by true it_is =
          let live : IsLive tree x = ap (row_of tree) at_i ∙ is in
          let both : Some r ≡ Some x = sym here ∙ ap (row_at tree) (sym (same_key-true x.key key it_is)) ∙ fits.rules.differ x live in
          let same : r ≡ x = cc in
          absurd (eqb-false r.id i at (ap (λ (y : Row). y.id) same ∙ at_i))
      by false other = refl

  -- of the row of the key alone
  pub one_is : (id : ℕ) → Some id ≡ option_map (λ r. r.id) (row_at tree key) → id ∷ [] ≡ ids (filter (λ r. same_key r.key key) tree)
  one_is id is =
      let it = looked_up tree rows key fits id is in
      let p : Row → Bool = λ r. same_key r.key key in
      let P : ℕ → Type 0 = λ n. n ∷ [] ≡ ids (filter p tree) in
      subst P it.2
      (same_ids 0 (it.0.id ∷ []) (ids (filter p tree)) (omega arith, tt) (ids_ascend p 0 tree fits.rules.ascend)
      (λ i. one_by it.0 it.1 i (row_of tree i) refl (eqb it.0.id i) refl ∙ sym (has_row p 0 tree i fits.rules.ascend)))

  -- a key that is there has its id
  pub not_none : has_item (items_of tree rows) key ≡ true → None ≡ option_map (λ (r : Row). r.id) (row_at tree key) → ⊥
  not_none there none = by (row_at tree key) (sym (has_is tree rows key) ∙ there) none
    where
      by : (o : Option Row) → is_some o ≡ true → None ≡ option_map (λ (r : Row). r.id) o → ⊥
      by None some none = cc
      by (Some r) some none = cc
