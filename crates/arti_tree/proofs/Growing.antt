-- A tree with one row more.
use Rattle.std.proofs.Common.{◌≡◌, ℕ, ◌+◌, ◌<◌, ◌≤◌, ◌^◌, ◌⊎◌, ⊎_elim, inl, inr, zero, suc, Bool, true, false, cond, eqb, List, [], ◌∷◌, length, get_or, take, drop, Option, Some, None, option_map, refl, sym, ap, ◌∙◌, subst, arith, Less}
use Rattle.std.specs.Prelude.{◌==◌, All, nat_eq}
use Rattle.std.specs.List.{filter, find, count_by, insert}
use Rattle.std.specs.Cmp.Lexicographic.{pointwise}
use Rattle.std.proofs.lemmas.Bool.{eqb-true, eq-eqb, ne_eqb, false_from_ne_true}
use Rattle.std.proofs.lemmas.List.Elements.{All-append, All-cons, All-take, All-drop, All-weaker}
use Rattle.std.proofs.lemmas.List.Edits.{length-insert}
use Rattle.std.proofs.lemmas.List.Sums.{sum_by-insert}
use Rattle.arti_rows.specs.Key.{Key, key_cmp, same_key}
use Rattle.arti_rows.specs.Names.{IsKey}
use Rattle.arti_tree.specs.declared.slot.Slot.{Slot}
use Rattle.arti_tree.specs.Ids.{with_id}
use Rattle.arti_tree.specs.Rows.{Row, ids, row_of, row_at, has_folder, folder_of, folder_id, lies_in, is_of, with_row, IsLive, HasFolder, IsTree}
use Rattle.arti_tree.specs.Slots.{at, row_with, live, is_it}
use Rattle.arti_tree.specs.Kept.{inside, Ordered, Kept}
use Rattle.arti_tree.proofs.RowLists.{rows_from_with, find_with_no, find_with_yes, filter_with_no, filter_with_yes, ids_with, put_at}
use Rattle.arti_tree.proofs.Rises.{found_live, rising_insert}
use Rattle.arti_tree.proofs.Folders.{filter_none, lying, none_in, lies_by_id}
use Rattle.arti_tree.proofs.Looks.{no_row, kept_as, live_in}
use Rattle.arti_tree.proofs.Lives.{row_of_live}
use Rattle.arti_rows.specs.KeyLaws.{same_key-true, same_key-refl}

pub ids_insert : (rows : List Row) (i : ℕ) (r : Row) → ids (insert rows i r) ≡ insert (ids rows) i r.id
ids_insert [] zero r = refl
ids_insert [] (suc i) r = refl
ids_insert (x ∷ rows) zero r = refl
ids_insert (x ∷ rows) (suc i) r = ap (λ (l : List ℕ). x.id ∷ l) (ids_insert rows i r)

-- what a new row has to keep
pub record Fresh (rows : List Row) (r : Row) : Type 0 where
  pub is_key : IsKey r.key
  pub no_id : row_of rows r.id ≡ None
  pub no_key : row_at rows r.key ≡ None
  pub folder : HasFolder rows r.key
  pub few : length rows + 1 < 2 ^ 32

eq_or : (b : Bool) → (b ≡ true) ⊎ (b ≡ false)
eq_or true = inl refl
eq_or false = inr refl

module _ (rows : List Row) (r : Row) (tree : IsTree rows) (fresh : Fresh rows r) where
  abbrev more : List Row
  more = with_row r rows

  -- a key that was there still is, and is another
  other_key : (k : Key) (x : Row) → row_at rows k ≡ Some x → same_key r.key k ≡ false
  other_key k x e = false_from_ne_true (same_key r.key k) (λ s. let same : r.key ≡ k = same_key-true r.key k s in let none : row_at rows k ≡ None = subst (λ (j : Key). row_at rows j ≡ None) same fresh.no_key in none_some none e)
    where
      none_some : {o : Option Row} → o ≡ None → o ≡ Some x → ⊥
      none_some n s = let e : None ≡ Some x = sym n ∙ s in cc

  pub still_at : (k : Key) (x : Row) → row_at rows k ≡ Some x → row_at more k ≡ Some x
  still_at k x e = find_with_no (λ y. same_key y.key k) r rows (other_key k x e) ∙ e

  -- a live row is the new one or was live
  pub live_cases : (x : Row) → IsLive more x → (x ≡ r) ⊎ IsLive rows x
  live_cases x is = ⊎_elim
      (λ (e : eqb r.id x.id ≡ true).
      let same : r.id ≡ x.id = eqb-true r.id x.id e in
      let none : row_of rows x.id ≡ None = subst (λ (i : ℕ). row_of rows i ≡ None) same fresh.no_id in
      let found : row_of more x.id ≡ Some r = find_with_yes (λ y. eqb y.id x.id) r rows e none in
      inl (some_same x r (sym is ∙ found)))
      (λ (e : eqb r.id x.id ≡ false). inr (sym (find_with_no (λ y. eqb y.id x.id) r rows e) ∙ is))
      (eq_or (eqb r.id x.id))
    where
      some_same : (x y : Row) → Some x ≡ Some y → x ≡ y
      some_same x y e = cc

  new_at : row_at more r.key ≡ Some r
  new_at = find_with_yes (λ y. same_key y.key r.key) r rows (same_key-refl r.key) fresh.no_key

  still_folder : (k : Key) → HasFolder rows k → HasFolder more k
  still_folder k h has = let f = h has in record { row = f.row; there = still_at (folder_of k) f.row f.there; folder = f.folder }

  pub long_more : length more ≡ length rows + 1
  long_more = let p = put_at r rows in ap length p.is ∙ length-insert rows p.place r p.within

  pub tree_more : IsTree more
  tree_more = record {
    ascend = rows_from_with 0 r rows tree.ascend (omega arith) fresh.no_id;
    few = omega (arith, long_more, fresh.few);
    keys = λ x is. ⊎_elim (λ (e : x ≡ r). subst (λ (y : Row). IsKey y.key) (sym e) fresh.is_key) (λ (was : IsLive rows x). tree.keys x was) (live_cases x is);
    differ = λ x is. ⊎_elim (λ (e : x ≡ r). subst (λ (y : Row). row_at more y.key ≡ Some y) (sym e) new_at) (λ (was : IsLive rows x). still_at x.key x (tree.differ x was)) (live_cases x is);
    folders = λ x is. ⊎_elim (λ (e : x ≡ r). subst (λ (y : Row). HasFolder more y.key) (sym e) (still_folder r.key fresh.folder)) (λ (was : IsLive rows x). still_folder x.key (tree.folders x was)) (live_cases x is);
  }

  -- a live row is another, and stays live
  other_id : (x : Row) → IsLive rows x → eqb r.id x.id ≡ false
  other_id x was = ne_eqb r.id x.id (λ e. let none : row_of rows x.id ≡ None = subst (λ (i : ℕ). row_of rows i ≡ None) e fresh.no_id in both_ways none was)
    where
      both_ways : {o : Option Row} → o ≡ None → o ≡ Some x → ⊥
      both_ways n s = let e : None ≡ Some x = sym n ∙ s in cc

  still_live : (x : Row) → IsLive rows x → IsLive more x
  still_live x was = find_with_no (λ y. eqb y.id x.id) r rows (other_id x was) ∙ was

  new_live : IsLive more r
  new_live = find_with_yes (λ y. eqb y.id r.id) r rows (eq-eqb r.id r.id refl) fresh.no_id

  -- the order with the new row between the lesser and the greater ones
  module _ (order : List ℕ) (ordered : Ordered rows order) (i : ℕ) (within : i ≤ length ordered.sorted)
      (before : (j : ℕ) → j < i → key_cmp (get_or ordered.sorted j no_row).key r.key ≡ Less)
      (behind : (j : ℕ) → i ≤ j → j < length ordered.sorted → key_cmp r.key (get_or ordered.sorted j no_row).key ≡ Less) where
    pub order_more : Ordered more (insert order i r.id)
    order_more =
        let P : Row → Type 0 = IsLive more in
        let all : All P ordered.sorted = All-weaker (IsLive rows) P still_live ordered.sorted ordered.live in
        record {
          sorted = insert ordered.sorted i r;
          is = ap (λ l. insert l i r.id) ordered.is ∙ sym (ids_insert ordered.sorted i r);
          live = All-append P (take i ordered.sorted) (r ∷ drop i ordered.sorted) (All-take P i ordered.sorted all) (All-cons P r (drop i ordered.sorted) new_live (All-drop P i ordered.sorted all));
          same = λ test. let p = put_at r rows in let f : Row → ℕ = λ x. cond (test x) 1 0 in
              sum_by-insert f ordered.sorted i r ∙ ap (λ n. n + f r) (ordered.same test) ∙ sym (ap (count_by test) p.is ∙ sum_by-insert f rows p.place r);
          rising = rising_insert r no_row ordered.sorted i ordered.rising within before behind;
        }

  -- nothing lies in the new row
  pub none_in_new : find (lies_in r.key) more ≡ None
  none_in_new = find_with_no (lies_in r.key) r rows (false_from_ne_true (lies_in r.key r) (λ e. let l = lying r.key r e in let f = fresh.folder l.0 in none_some (subst (λ (k : Key). row_at rows k ≡ None) (sym l.1) fresh.no_key) f.there)) ∙ none_in rows r.key tree fresh.no_key
    where
      none_some : {o : Option Row} {x : Row} → o ≡ None → o ≡ Some x → ⊥
      none_some {o} {x} n s = let e : None ≡ Some x = sym n ∙ s in cc

  list_by : (b t : Bool) (p : Row → Bool) → p r ≡ b → b ≡ t → ids (filter p more) ≡ cond t (with_id r.id (ids (filter p rows))) (ids (filter p rows))
  list_by true t p is same = filter_with_yes p 0 r rows tree.ascend is ∙ ap (λ c. cond c (with_id r.id (ids (filter p rows))) (ids (filter p rows))) same
  list_by false t p is same = ap ids (filter_with_no p r rows is) ∙ ap (λ c. cond c (with_id r.id (ids (filter p rows))) (ids (filter p rows))) same

  pub list_more : (t : Bool) (p : Row → Bool) → p r ≡ t → ids (filter p more) ≡ cond t (with_id r.id (ids (filter p rows))) (ids (filter p rows))
  list_more t p is = list_by (p r) t p refl is

module _ (slots more_slots : List (Option Slot)) (s : Slot) (id : ℕ) (all order : List ℕ) (lists more_lists : ℕ → List ℕ) (repos more_repos : List ℕ → List ℕ) (kept : Kept slots all order lists repos)
    (fresh : Fresh (live 0 slots) (row_with id s)) where
  abbrev rows : List Row
  rows = live 0 slots

  abbrev new : Row
  new = row_with id s

  empty_id : at slots id ≡ None
  empty_id = by_slot (at slots id) (sym (row_of_live id slots) ∙ fresh.no_id)
    where
      by_slot : (o : Option Slot) → option_map (row_with id) o ≡ None → o ≡ None
      by_slot None e = refl
      by_slot (Some t) e = cc

  folder_apart : is_it (folder_id rows s.key) id ≡ false
  folder_apart = false_from_ne_true (is_it (folder_id rows s.key) id) (λ e. by_folder (has_folder s.key) (row_at rows (folder_of s.key)) refl e)
    where
      by_folder : (h : Bool) (o : Option Row) → row_at rows (folder_of s.key) ≡ o → is_it (cond h (option_map (λ (y : Row). y.id) o) None) id ≡ true → ⊥
      by_folder false o is e = cc
      by_folder true None is e = cc
      by_folder true (Some y) is e =
          let same : y.id ≡ id = eqb-true y.id id e in
          let y_live : row_of rows y.id ≡ Some y = found_live (λ z. same_key z.key (folder_of s.key)) 0 rows y kept.tree.ascend is in
          let none : row_of rows y.id ≡ None = subst (λ (i : ℕ). row_of rows i ≡ None) (sym same) fresh.no_id in
          let e : None ≡ Some y = sym none ∙ y_live in
          cc

  module _ (is_more : live 0 more_slots ≡ with_row new rows)
      (slots_are : (i : ℕ) → at more_slots i ≡ cond (i == id) (Some s) (at slots i))
      (lists_are : (i : ℕ) → more_lists i ≡ cond (is_it (folder_id rows s.key) i) (with_id id (lists i)) (lists i)) where
    children_by : (i : ℕ) (b : Bool) (o : Option Slot) → eqb i id ≡ b → at slots i ≡ o → more_lists i ≡ inside (with_row new rows) (cond b (Some s) o)
    children_by i true o same was =
        let e : id ≡ i = sym (eqb-true i id same) in
        subst (λ (j : ℕ). more_lists j ≡ inside (with_row new rows) (Some s)) e
        (lists_are id ∙ ap (λ t. cond t (with_id id (lists id)) (lists id)) folder_apart ∙ kept.children_are id ∙ ap (inside rows) empty_id ∙ sym (ap ids (filter_none (lies_in s.key) (with_row new rows) (none_in_new rows new kept.tree fresh))))
    children_by i false None same was =
        let old : lists i ≡ [] = kept.children_are i ∙ ap (inside rows) was in
        lists_are i ∙ ap (λ t. cond t (with_id id (lists i)) (lists i)) (apart i was) ∙ old
      where
        apart : (j : ℕ) → at slots j ≡ None → is_it (folder_id rows s.key) j ≡ false
        apart j none = false_from_ne_true (is_it (folder_id rows s.key) j) (λ e. by_folder (has_folder s.key) (row_at rows (folder_of s.key)) refl e)
          where
            by_folder : (h : Bool) (o : Option Row) → row_at rows (folder_of s.key) ≡ o → is_it (cond h (option_map (λ (y : Row). y.id) o) None) j ≡ true → ⊥
            by_folder false o is e = cc
            by_folder true None is e = cc
            by_folder true (Some y) is e =
                let same : y.id ≡ j = eqb-true y.id j e in
                let y_live : row_of rows y.id ≡ Some y = found_live (λ z. same_key z.key (folder_of s.key)) 0 rows y kept.tree.ascend is in
                let k = kept_as slots y y_live in
                let there : at slots y.id ≡ None = subst (λ (i : ℕ). at slots i ≡ None) (sym same) none in
                let e : None ≡ Some k.slot = sym there ∙ k.there in
                cc
    children_by i false (Some t) same was =
        let x : Row = row_with i t in
        let x_live : IsLive rows x = live_in slots i t was in
        lists_are i ∙ ap (λ l. cond (is_it (folder_id rows s.key) i) (with_id id l) l) (kept.children_are i ∙ ap (inside rows) was)
        ∙ sym (list_more rows new kept.tree fresh (is_it (folder_id rows s.key) i) (lies_in t.key) (lies_by_id rows new kept.tree x x_live))

    pub children_more : (i : ℕ) → more_lists i ≡ inside (live 0 more_slots) (at more_slots i)
    children_more i = children_by i (eqb i id) (at slots i) refl refl ∙ sym (ap (λ (l : List Row). inside l (cond (i == id) (Some s) (at slots i))) is_more) ∙ sym (ap (inside (live 0 more_slots)) (slots_are i))

    -- each list is kept
    pub kept_more : (more_all more_order : List ℕ) → more_all ≡ with_id id all → Ordered (with_row new rows) more_order
        → ((q : List ℕ) → more_repos q ≡ cond (pointwise nat_eq q s.key.repo) (with_id id (repos q)) (repos q)) → Kept more_slots more_all more_order more_lists more_repos
    kept_more more_all more_order all_is ordered repos_are = record {
      tree = subst IsTree (sym is_more) (tree_more rows new kept.tree fresh);
      all_is = all_is ∙ ap (with_id id) kept.all_is ∙ sym (ids_with new rows) ∙ sym (ap ids is_more);
      order_is = subst (λ (l : List Row). Ordered l more_order) (sym is_more) ordered;
      children_are = children_more;
      repos_are = λ q. repos_are q ∙ ap (λ (l : List ℕ). cond (pointwise nat_eq q s.key.repo) (with_id id l) l) (kept.repos_are q)
          ∙ sym (ap (λ (l : List Row). ids (filter (is_of q) l)) is_more ∙ list_more rows new kept.tree fresh (pointwise nat_eq q s.key.repo) (is_of q) refl);
    }
