-- Something lies beneath a key exactly where something lies in it.
use Rattle.std.proofs.Common.{◌≡◌, ℕ, ◌+◌, ◌<◌, ⊎_elim, zero, suc, Bool, true, false, cond, List, [], ◌∷◌, ◌++◌, length, Option, Some, None, refl, sym, ap, ◌∙◌, arith}
use Rattle.std.specs.Prelude.{◌||◌, not}
use Rattle.std.specs.Option.{option_map_or, is_none, is_some}
use Rattle.std.specs.List.{list_any, find}
use Rattle.arti_rows.specs.Key.{Key, whole_of, folders_above, same_key}
use Rattle.arti_tree.specs.Rows.{Row, row_of, has_folder, folder_of, lies_in, lies_beneath, may_go, IsLive, IsTree}
use Rattle.arti_tree.proofs.Rises.{found_passes, found_live}
use Rattle.arti_tree.proofs.Folders.{none_passes}
use Rattle.arti_tree.proofs.Above.{above, none_above, shorter}
use Rattle.arti_rows.specs.KeyLaws.{same_key-true}
use Rattle.std.proofs.lemmas.Bool.{and_parts, and_from, or_cases, or_right, cases_Bool}

or_by : (a b c : Bool) → (a || b) || c ≡ a || (b || c)
or_by true b c = refl
or_by false b c = refl

any_push : (p : Key → Bool) (fs : List Key) (f : Key) → list_any p (fs ++ f ∷ []) ≡ list_any p fs || p f
any_push p [] f = or_false (p f)
  where
    or_false : (b : Bool) → b || false ≡ false || b
    or_false true = refl
    or_false false = refl
any_push p (x ∷ fs) f = ap (λ b. p x || b) (any_push p fs f) ∙ sym (or_by (p x) (list_any p fs) (p f))

any_found : (p : Row → Bool) (rows : List Row) → list_any p rows ≡ is_some (find p rows)
any_found p [] = refl
any_found p (x ∷ rows) = ap (λ b. p x || b) (any_found p rows) ∙ by_first (p x) (find p rows)
  where
    by_first : (b : Bool) (o : Option Row) → b || is_some o ≡ is_some (cond b (Some x) o)
    by_first true o = refl
    by_first false o = refl

-- a live row that passes a test
pub record Passes (rows : List Row) (p : Row → Bool) : Type 0 where
  pub row : Row
  pub live : IsLive rows row
  pub passes : p row ≡ true

module _ (rows : List Row) (tree : IsTree rows) (k : Key) where
  -- what lies in it lies beneath it
  in_beneath : (x : Row) → IsLive rows x → lies_in k x ≡ true → lies_beneath k x ≡ true
  in_beneath x live e =
      let parts = and_parts (has_folder x.key) (same_key (folder_of x.key) k) e in
      ap (list_any (λ f. same_key f k)) (above x.key (tree.keys x live) parts.0) ∙ any_push (λ f. same_key f k) (folders_above (folder_of x.key)) (folder_of x.key)
      ∙ or_right (list_any (λ f. same_key f k) (folders_above (folder_of x.key))) (same_key (folder_of x.key) k) parts.1

  -- what lies beneath it leads to what lies in it
  pub beneath_in : (n : ℕ) (x : Row) → length (whole_of x.key) < n → IsLive rows x → lies_beneath k x ≡ true → Passes rows (lies_in k)
  beneath_in zero x short live e = absurd (omega arith)
  beneath_in (suc n) x short live e = ⊎_elim
      (λ (has : has_folder x.key ≡ true).
      let key = tree.keys x live in
      let split : (list_any (λ f. same_key f k) (folders_above (folder_of x.key)) || same_key (folder_of x.key) k) ≡ true =
      sym (ap (list_any (λ f. same_key f k)) (above x.key key has) ∙ any_push (λ f. same_key f k) (folders_above (folder_of x.key)) (folder_of x.key)) ∙ e in
      let folder = tree.folders x live has in
      let f_live : IsLive rows folder.row = found_live (λ y. same_key y.key (folder_of x.key)) 0 rows folder.row tree.ascend folder.there in
      let f_key : folder.row.key ≡ folder_of x.key = same_key-true folder.row.key (folder_of x.key) (found_passes (λ y. same_key y.key (folder_of x.key)) rows folder.row folder.there) in
      let less : length (whole_of folder.row.key) < n = omega (arith, ap (λ (j : Key). length (whole_of j)) f_key, shorter x.key key has, short) in
      ⊎_elim
      (λ (higher : list_any (λ f. same_key f k) (folders_above (folder_of x.key)) ≡ true). beneath_in n folder.row less f_live (ap (λ (j : Key). list_any (λ f. same_key f k) (folders_above j)) f_key ∙ higher))
      (λ (here : same_key (folder_of x.key) k ≡ true). record { row = x; live = live; passes = and_from (has_folder x.key) (same_key (folder_of x.key) k) has here })
      (or_cases (list_any (λ f. same_key f k) (folders_above (folder_of x.key))) (same_key (folder_of x.key) k) split))
      (λ (has : has_folder x.key ≡ false). let none : false ≡ true = sym (ap (list_any (λ f. same_key f k)) (none_above x.key (tree.keys x live) has)) ∙ e in cc)
      (cases_Bool (has_folder x.key))

  some_by : (a b : Option Row) → find (lies_in k) rows ≡ a → find (lies_beneath k) rows ≡ b → is_some a ≡ is_some b
  some_by None None e f = refl
  some_by (Some x) (Some y) e f = refl
  some_by (Some x) None e f =
      let live = found_live (lies_in k) 0 rows x tree.ascend e in
      absurd (none_passes (lies_beneath k) rows x f live (in_beneath x live (found_passes (lies_in k) rows x e)))
  some_by None (Some y) e f =
      let live = found_live (lies_beneath k) 0 rows y tree.ascend f in
      let p = beneath_in (length (whole_of y.key) + 1) y (omega arith) live (found_passes (lies_beneath k) rows y f) in
      absurd (none_passes (lies_in k) rows p.row e p.live p.passes)

  pub none_beneath : is_none (find (lies_in k) rows) ≡ not (list_any (lies_beneath k) rows)
  none_beneath = ap not (some_by (find (lies_in k) rows) (find (lies_beneath k) rows) refl refl ∙ sym (any_found (lies_beneath k) rows))

may_by : (rows : List Row) (o : Option Row) → IsTree rows → option_map_or (λ r. is_none (find (lies_in r.key) rows)) o false ≡ option_map_or (λ r. not (list_any (lies_beneath r.key) rows)) o false
may_by rows None tree = refl
may_by rows (Some r) tree = none_beneath rows tree r.key

pub may_go_is : (rows : List Row) (id : ℕ) → IsTree rows → option_map_or (λ r. is_none (find (lies_in r.key) rows)) (row_of rows id) false ≡ may_go rows id
may_go_is rows id tree = may_by rows (row_of rows id) tree
