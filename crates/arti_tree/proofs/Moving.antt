-- The kept lists as a row gets another key, and those beneath it with it.
use Rattle.std.proofs.Common.{◌≡◌, ◌≢◌, ℕ, ⊎_elim, Bool, true, false, cond, eqb, List, [], ◌∷◌, Option, Some, None, option_map, refl, sym, ap, ◌∙◌, subst}
use Rattle.std.specs.Prelude.{map, ◌||◌, ◌&&◌, not, nat_eq, IsSome}
use Rattle.std.specs.Option.{option_map_or}
use Rattle.std.specs.List.{filter}
use Rattle.std.specs.Cmp.Lexicographic.{pointwise}
use Rattle.std.proofs.lemmas.Bool.{eqb-true, eqb-false, ne_eqb, false_from_ne_true, cases_Bool}
use Rattle.arti_rows.specs.Key.{Key, same_key}
use Rattle.arti_rows.specs.Names.{IsKey}
use Rattle.arti_tree.specs.declared.slot.Slot.{Slot}
use Rattle.arti_tree.specs.Ids.{AscendFrom}
use Rattle.arti_tree.specs.Rows.{Row, ids, row_of, row_at, has_folder, folder_of, folder_id, lies_in, is_of, HasFolder, IsLive, IsTree, RowsFrom}
use Rattle.arti_tree.specs.Slots.{at, row_with, live, is_it, no_key}
use Rattle.arti_tree.specs.Kept.{inside, Ordered, Kept}
use Rattle.arti_tree.specs.Renames.{is_within, moved, moved_row, has, AreWithin, key_for, rekeyed_all, StayKeys, CanRekey}
use Rattle.arti_tree.specs.Shifts.{shifted, AreNew}
use Rattle.arti_tree.proofs.RowLists.{filtered_ascend}
use Rattle.arti_tree.proofs.Rises.{found_live, found_passes}
use Rattle.arti_tree.proofs.Folders.{lies_by_id}
use Rattle.arti_tree.proofs.Lives.{row_of_live}
use Rattle.arti_tree.proofs.Looks.{live_in}
use Rattle.arti_tree.proofs.Under.{path_under, within_cases, within_is}
use Rattle.arti_tree.proofs.Members.{same_members, has_with_ids, has_without_ids, without_ids_ascend, with_ids_ascend, lacks_from, are_new, has_rows}
use Rattle.arti_tree.proofs.Mapped.{ids_map, row_of_map, map_same, one_id, one_key}
use Rattle.arti_tree.proofs.Moved.{keeps_id, moved_yes, moved_no, new_absent, apart, same_keys, Lying, lying, FolderRow, to_folder, to_stays, top_moved, tree_moved}
use Rattle.arti_tree.proofs.Rekeys.{with_new, rekeyed_all_is, can_rekey}
use Rattle.arti_tree.proofs.Finding.{Found, found_by}

-- whether a shifted list has an id
abbrev form : Bool → Bool → Bool → Bool → Bool
form was will m l = cond was (cond will l (not m && l)) (cond will (m || l) l)

has_shifted : (was will : Bool) (ids l : List ℕ) (i : ℕ) → has (shifted was will ids l) i ≡ form was will (has ids i) (has l i)
has_shifted true true ids l i = refl
has_shifted true false ids l i = has_without_ids ids l i
has_shifted false true ids l i = has_with_ids ids l i
has_shifted false false ids l i = refl

form_in : (was will m l : Bool) → m ≡ true → l ≡ was → form was will m l ≡ will
form_in true true m l e f = f
form_in true false m l e f = ap (λ b. not b && l) e
form_in false true m l e f = ap (λ b. b || l) e
form_in false false m l e f = f

form_out : (was will m l : Bool) → m ≡ false → form was will m l ≡ l
form_out true true m l e = refl
form_out true false m l e = ap (λ b. not b && l) e
form_out false true m l e = ap (λ b. b || l) e
form_out false false m l e = refl

shifted_ascends : (was will : Bool) (ids l : List ℕ) → AscendFrom 0 l → (was ≡ false → AreNew l ids) → AscendFrom 0 (shifted was will ids l)
shifted_ascends true true ids l up new = up
shifted_ascends true false ids l up new = without_ids_ascend ids l up
shifted_ascends false true ids l up new = with_ids_ascend ids l up (new refl)
shifted_ascends false false ids l up new = up

none_slot : (i : ℕ) (o : Option Slot) → option_map (row_with i) o ≡ None → o ≡ None
none_slot i None e = refl
none_slot i (Some s) e = cc

record Filled (o : Option Slot) (i : ℕ) (x : Row) : Type 0 where
  pub slot : Slot
  pub is : o ≡ Some slot
  pub key : slot.key ≡ x.key

filled : (o : Option Slot) (i : ℕ) (x : Row) → option_map (row_with i) o ≡ Some x → Filled o i x
filled None i x e = cc
filled (Some s) i x e = record { slot = s; is = refl; key = let same : row_with i s ≡ x = cc in ap (λ (r : Row). r.key) same }

false_true : (b : Bool) → b ≡ false → b ≡ true → ⊥
false_true b e f = let no : false ≡ true = sym e ∙ f in cc

none_some : {o : Option Row} {x : Row} → o ≡ None → o ≡ Some x → ⊥
none_some {o} {x} n s = let e : None ≡ Some x = sym n ∙ s in cc

single : (id i : ℕ) → has (id ∷ []) i ≡ eqb id i
single id i = by (eqb id i)
  where
    by : (b : Bool) → b || false ≡ b
    by true = refl
    by false = refl

module _ (rows : List Row) (from to : Key) (tree : IsTree rows) (from_is : IsKey from) (to_is : IsKey to) (stay : StayKeys rows from to) (absent : row_at rows to ≡ None) (w : List ℕ) (is_w : AreWithin rows from w) where
  abbrev within_row : Row → Bool
  within_row r = is_within from r.key

  found : (i : ℕ) → has w i ≡ true → Found rows from i
  found i e = let x = found_by rows within_row i (row_of rows i) tree.ascend refl (sym (is_w.each i) ∙ e) in record { row = x.0; live = x.1; is = x.2; of = x.3; within = x.4 }

  new_of : (i : ℕ) (x : Row) → row_of rows i ≡ Some x → key_for rows from to i ≡ moved from to x.key
  new_of i x is = ap (λ o. option_map_or (λ (r : Row). moved from to r.key) o no_key) is

  pub can : CanRekey rows w (map (key_for rows from to) w)
  can = can_rekey w (key_for rows from to) rows tree.ascend is_w.once
      (record {
        differ = λ i j a b e.
            let x = found i a in
            let y = found j b in
            let same : x.row ≡ y.row = apart rows from to tree from_is to_is stay absent x.row y.row x.live y.live (sym (new_of i x.row x.of) ∙ e ∙ new_of j y.row y.of) in
            sym x.is ∙ ap (λ (r : Row). r.id) same ∙ y.is;
      })
      (record {
        there = λ i a. let x = found i a in subst (λ (o : Option Row). IsSome o) (sym x.of) refl;
        absent = λ x live i a same. let y = found i a in new_absent rows from to tree from_is to_is stay absent x y.row live y.live y.within (sym (new_of i y.row y.of) ∙ sym same);
      })

  at_once : (x : Row) → IsLive rows x → with_new w (key_for rows from to) x ≡ moved_row from to x
  at_once x live = by (is_within from x.key) refl
    where
      has_it : (b : Bool) → is_within from x.key ≡ b → has w x.id ≡ b
      has_it b e = is_w.each x.id ∙ ap (λ o. option_map_or within_row o false) live ∙ e

      by : (b : Bool) → is_within from x.key ≡ b → with_new w (key_for rows from to) x ≡ moved_row from to x
      by true e = ap (λ t. cond t (record { id = x.id; key = key_for rows from to x.id; is_file = x.is_file }) x) (has_it true e) ∙ ap (λ (k : Key). record { id = x.id; key = k; is_file = x.is_file }) (new_of x.id x live)
      by false e = ap (λ t. cond t (record { id = x.id; key = key_for rows from to x.id; is_file = x.is_file }) x) (has_it false e) ∙ sym (ap (λ (k : Key). record { id = x.id; key = k; is_file = x.is_file }) (moved_no from to x.key e))

  pub all_moved : rekeyed_all w (map (key_for rows from to) w) rows ≡ map (moved_row from to) rows
  all_moved = rekeyed_all_is w (key_for rows from to) rows ∙ map_same (with_new w (key_for rows from to)) (moved_row from to) 0 rows tree.ascend at_once

  -- no folder is the row of an id that isn't live
  pub folder_apart : (k : Key) (i : ℕ) → row_of rows i ≡ None → is_it (folder_id rows k) i ≡ false
  folder_apart k i none = false_from_ne_true (is_it (folder_id rows k) i) (λ e. by_folder (has_folder k) (row_at rows (folder_of k)) refl e)
    where
      by_folder : (h : Bool) (o : Option Row) → row_at rows (folder_of k) ≡ o → is_it (cond h (option_map (λ (y : Row). y.id) o) None) i ≡ true → ⊥
      by_folder false o is e = cc
      by_folder true None is e = cc
      by_folder true (Some y) is e =
          let same : y.id ≡ i = eqb-true y.id i e in
          none_some none (sym (ap (row_of rows) same) ∙ found_live (λ z. same_key z.key (folder_of k)) 0 rows y tree.ascend is)

  -- what else lies in a folder lies there afterwards
  lies_other : (x y : Row) → IsLive rows x → IsLive rows y → y.key ≢ from → lies_in (moved_row from to x).key (moved_row from to y) ≡ lies_in x.key y
  lies_other x y x_live y_live ne = by (has_folder y.key) refl
    where
      rooted : has_folder y.key ≡ false → (moved_row from to y).key ≡ y.key
      rooted e = moved_no from to y.key (false_from_ne_true (is_within from y.key) (λ in_it. ⊎_elim ne (λ u. false_true (has_folder y.key) e (path_under from y.key (tree.keys y y_live) u).has) (within_cases from y.key (tree.keys y y_live) in_it)))

      by : (b : Bool) → has_folder y.key ≡ b → lies_in (moved_row from to x).key (moved_row from to y) ≡ lies_in x.key y
      by true e =
          let l : Lying rows from to y = lying rows from to tree from_is to_is stay absent y y_live e ne in
          let f = l.folder in
          ap (λ t. t && same_key (folder_of (moved_row from to y).key) (moved_row from to x).key) l.has ∙ ap (λ (k : Key). same_key k (moved_row from to x).key) l.after
          ∙ same_keys rows from to tree from_is to_is stay absent f.row x f.live x_live ∙ ap (λ (k : Key). same_key k x.key) f.key ∙ sym (ap (λ t. t && same_key (folder_of y.key) x.key) e)
      by false e =
          ap (λ t. t && same_key (folder_of (moved_row from to y).key) (moved_row from to x).key) (ap has_folder (rooted e) ∙ e) ∙ sym (ap (λ t. t && same_key (folder_of y.key) x.key) e)

  module _ (folder : HasFolder rows to) (apart_to : is_within from to ≡ false) (r : Row) (r_live : IsLive rows r) (r_key : r.key ≡ from) where
    -- the row itself lies in the folder of the new key
    lies_top : (x : Row) → IsLive rows x → lies_in (moved_row from to x).key (moved_row from to r) ≡ is_it (folder_id rows to) x.id
    lies_top x x_live =
        let here : Row = record { id = r.id; key = to; is_file = r.is_file } in
        let same : (moved_row from to r).key ≡ to = top_moved rows from to tree from_is to_is stay absent folder apart_to r r_key in
        ap (λ (k : Key). has_folder k && same_key (folder_of k) (moved_row from to x).key) same ∙ by (has_folder to) refl ∙ lies_by_id rows here tree x x_live
      where
        by : (b : Bool) → has_folder to ≡ b → (has_folder to && same_key (folder_of to) (moved_row from to x).key) ≡ (has_folder to && same_key (folder_of to) x.key)
        by true e =
            let f : FolderRow rows to = to_folder rows from to tree from_is to_is stay absent folder apart_to e in
            ap (λ b. has_folder to && b) (ap (λ (k : Key). same_key k (moved_row from to x).key) (sym (to_stays rows from to tree from_is to_is stay absent folder apart_to e))
            ∙ same_keys rows from to tree from_is to_is stay absent f.row x f.live x_live ∙ ap (λ (k : Key). same_key k x.key) f.key)
        by false e = ap (λ b. b && same_key (folder_of to) (moved_row from to x).key) e ∙ sym (ap (λ b. b && same_key (folder_of to) x.key) e)

    abbrev now : List Row
    now = map (moved_row from to) rows

    now_ascends : RowsFrom 0 now
    now_ascends = (tree_moved rows from to tree from_is to_is stay absent folder apart_to).ascend

    list_by : (x : Row) (i : ℕ) → IsLive rows x → x.id ≡ i → (j : ℕ) (o : Option Row) → row_of rows j ≡ o
        → form (is_it (folder_id rows from) i) (is_it (folder_id rows to) i) (has (r.id ∷ []) j) (option_map_or (lies_in x.key) o false) ≡ option_map_or (λ y. lies_in (moved_row from to x).key (moved_row from to y)) o false
    list_by x i x_live x_id j None is = form_out (is_it (folder_id rows from) i) (is_it (folder_id rows to) i) (has (r.id ∷ []) j) false (single r.id j ∙ ne_eqb r.id j (λ e. none_some is (sym (ap (row_of rows) e) ∙ r_live)))
    list_by x i x_live x_id j (Some y) is =
        let y_live : IsLive rows y = found_live (λ z. eqb z.id j) 0 rows y tree.ascend is in
        let y_id : y.id ≡ j = eqb-true y.id j (found_passes (λ z. eqb z.id j) rows y is) in
        ⊎_elim
        (λ (e : eqb r.id j ≡ true).
        let same : r ≡ y = one_id rows r y r_live y_live (eqb-true r.id j e ∙ sym y_id) in
        let was : lies_in x.key y ≡ is_it (folder_id rows from) i = ap (lies_in x.key) (sym same) ∙ lies_by_id rows r tree x x_live ∙ ap (λ (k : Key). is_it (folder_id rows k) x.id) r_key ∙ ap (is_it (folder_id rows from)) x_id in
        form_in (is_it (folder_id rows from) i) (is_it (folder_id rows to) i) (has (r.id ∷ []) j) (lies_in x.key y) (single r.id j ∙ e) was
        ∙ sym (ap (λ (z : Row). lies_in (moved_row from to x).key (moved_row from to z)) (sym same) ∙ lies_top x x_live ∙ ap (is_it (folder_id rows to)) x_id))
        (λ (e : eqb r.id j ≡ false).
        let ne : y.key ≢ from = λ k. eqb-false r.id j e (ap (λ (z : Row). z.id) (one_key rows r y tree.differ r_live y_live (r_key ∙ sym k)) ∙ y_id) in
        form_out (is_it (folder_id rows from) i) (is_it (folder_id rows to) i) (has (r.id ∷ []) j) (lies_in x.key y) (single r.id j ∙ e) ∙ sym (lies_other x y x_live y_live ne))
        (cases_Bool (eqb r.id j))

    map_or : (f : Row → Bool) (o : Option Row) → option_map_or f (option_map (moved_row from to) o) false ≡ option_map_or (λ y. f (moved_row from to y)) o false
    map_or f None = refl
    map_or f (Some y) = refl

    has_now : (p : Row → Bool) (j : ℕ) → has (ids (filter p now)) j ≡ option_map_or (λ y. p (moved_row from to y)) (row_of rows j) false
    has_now p j = has_rows p 0 now j now_ascends ∙ ap (λ o. option_map_or p o false) (row_of_map (moved_row from to) (keeps_id from to) rows j) ∙ map_or p (row_of rows j)

    -- the list under an id
    pub list_moved : (x : Row) (i : ℕ) (l m : List ℕ) → IsLive rows x → x.id ≡ i → l ≡ ids (filter (lies_in x.key) rows) → m ≡ shifted (is_it (folder_id rows from) i) (is_it (folder_id rows to) i) (r.id ∷ []) l
        → m ≡ ids (filter (lies_in (moved_row from to x).key) now)
    list_moved x i l m x_live x_id l_is m_is =
        let was = is_it (folder_id rows from) i in
        let will = is_it (folder_id rows to) i in
        let l_up : AscendFrom 0 l = subst (λ (k : List ℕ). AscendFrom 0 k) (sym l_is) (filtered_ascend (lies_in x.key) 0 rows tree.ascend) in
        let l_has : (j : ℕ) → has l j ≡ option_map_or (lies_in x.key) (row_of rows j) false = λ j. ap (λ (k : List ℕ). has k j) l_is ∙ has_rows (lies_in x.key) 0 rows j tree.ascend in
        let lies_was : lies_in x.key r ≡ was = lies_by_id rows r tree x x_live ∙ ap (λ (k : Key). is_it (folder_id rows k) x.id) r_key ∙ ap (is_it (folder_id rows from)) x_id in
        let lacks : was ≡ false → AreNew l (r.id ∷ []) = λ e. (lacks_from l r.id (l_has r.id ∙ ap (λ o. option_map_or (lies_in x.key) o false) r_live ∙ lies_was ∙ e), tt) in
        same_members 0 0 m (ids (filter (lies_in (moved_row from to x).key) now))
        (subst (λ (k : List ℕ). AscendFrom 0 k) (sym m_is) (shifted_ascends was will (r.id ∷ []) l l_up lacks))
        (filtered_ascend (lies_in (moved_row from to x).key) 0 now now_ascends)
        (λ j. ap (λ (k : List ℕ). has k j) m_is ∙ has_shifted was will (r.id ∷ []) l j ∙ ap (form was will (has (r.id ∷ []) j)) (l_has j) ∙ list_by x i x_live x_id j (row_of rows j) refl ∙ sym (has_now (lies_in (moved_row from to x).key) j))

    repo_by : (q : List ℕ) (j : ℕ) (o : Option Row) → row_of rows j ≡ o
        → form (pointwise nat_eq q from.repo) (pointwise nat_eq q to.repo) (option_map_or within_row o false) (option_map_or (is_of q) o false) ≡ option_map_or (λ y. is_of q (moved_row from to y)) o false
    repo_by q j None is = form_out (pointwise nat_eq q from.repo) (pointwise nat_eq q to.repo) false false refl
    repo_by q j (Some y) is =
        let y_live : IsLive rows y = found_live (λ z. eqb z.id j) 0 rows y tree.ascend is in
        ⊎_elim
        (λ (e : is_within from y.key ≡ true).
        form_in (pointwise nat_eq q from.repo) (pointwise nat_eq q to.repo) (is_within from y.key) (is_of q y) e (ap (pointwise nat_eq q) (within_is from y.key (tree.keys y y_live) e).repo)
        ∙ sym (ap (λ (k : Key). pointwise nat_eq q k.repo) (moved_yes from to y.key e)))
        (λ (e : is_within from y.key ≡ false).
        form_out (pointwise nat_eq q from.repo) (pointwise nat_eq q to.repo) (is_within from y.key) (is_of q y) e ∙ sym (ap (λ (k : Key). pointwise nat_eq q k.repo) (moved_no from to y.key e)))
        (cases_Bool (is_within from y.key))

    pub repo_new : (q l : List ℕ) → l ≡ ids (filter (is_of q) rows) → pointwise nat_eq q from.repo ≡ false → AreNew l w
    repo_new q l l_is e = are_new w l is_w.once (λ j there.
        let y = found j there in
        ap (λ (k : List ℕ). has k j) l_is ∙ has_rows (is_of q) 0 rows j tree.ascend ∙ ap (λ o. option_map_or (is_of q) o false) y.of ∙ ap (pointwise nat_eq q) (within_is from y.row.key (tree.keys y.row y.live) y.within).repo ∙ e)

    -- the list of a repository
    pub repo_moved : (q l m : List ℕ) → l ≡ ids (filter (is_of q) rows) → m ≡ shifted (pointwise nat_eq q from.repo) (pointwise nat_eq q to.repo) w l → m ≡ ids (filter (is_of q) now)
    repo_moved q l m l_is m_is =
        let was = pointwise nat_eq q from.repo in
        let will = pointwise nat_eq q to.repo in
        let l_up : AscendFrom 0 l = subst (λ (k : List ℕ). AscendFrom 0 k) (sym l_is) (filtered_ascend (is_of q) 0 rows tree.ascend) in
        let l_has : (j : ℕ) → has l j ≡ option_map_or (is_of q) (row_of rows j) false = λ j. ap (λ (k : List ℕ). has k j) l_is ∙ has_rows (is_of q) 0 rows j tree.ascend in
        same_members 0 0 m (ids (filter (is_of q) now))
        (subst (λ (k : List ℕ). AscendFrom 0 k) (sym m_is) (shifted_ascends was will w l l_up (repo_new q l l_is)))
        (filtered_ascend (is_of q) 0 now now_ascends)
        (λ j. ap (λ (k : List ℕ). has k j) m_is ∙ has_shifted was will w l j ∙ ap (λ b. form was will b (has l j)) (is_w.each j) ∙ ap (form was will (option_map_or within_row (row_of rows j) false)) (l_has j)
        ∙ repo_by q j (row_of rows j) refl ∙ sym (has_now (is_of q) j))

module _ (slots new_slots : List (Option Slot)) (from to : Key) (all order : List ℕ) (lists new_lists : ℕ → List ℕ) (repos new_repos : List ℕ → List ℕ) (kept : Kept slots all order lists repos)
    (from_is : IsKey from) (to_is : IsKey to) (stay : StayKeys (live 0 slots) from to) (absent : row_at (live 0 slots) to ≡ None) (folder : HasFolder (live 0 slots) to) (apart_to : is_within from to ≡ false)
    (r : Row) (r_live : IsLive (live 0 slots) r) (r_key : r.key ≡ from) (w : List ℕ) (is_w : AreWithin (live 0 slots) from w) where
  abbrev rows : List Row
  rows = live 0 slots

  module _ (is_new : live 0 new_slots ≡ map (moved_row from to) rows)
      (lists_are : (i : ℕ) → new_lists i ≡ shifted (is_it (folder_id rows from) i) (is_it (folder_id rows to) i) (r.id ∷ []) (lists i))
      (repos_are : (q : List ℕ) → new_repos q ≡ shifted (pointwise nat_eq q from.repo) (pointwise nat_eq q to.repo) w (repos q)) where
    row_now : (i : ℕ) → option_map (row_with i) (at new_slots i) ≡ option_map (moved_row from to) (row_of rows i)
    row_now i = sym (row_of_live i new_slots) ∙ ap (λ (l : List Row). row_of l i) is_new ∙ row_of_map (moved_row from to) (keeps_id from to) rows i

    children_by : (i : ℕ) (o : Option Slot) → at slots i ≡ o → new_lists i ≡ inside (map (moved_row from to) rows) (at new_slots i)
    children_by i None is =
        let none : row_of rows i ≡ None = row_of_live i slots ∙ ap (option_map (row_with i)) is in
        let new_none : at new_slots i ≡ None = none_slot i (at new_slots i) (row_now i ∙ ap (option_map (moved_row from to)) none) in
        lists_are i ∙ ap (λ b. shifted b (is_it (folder_id rows to) i) (r.id ∷ []) (lists i)) (folder_apart rows from to kept.tree from_is to_is stay absent w is_w from i none)
        ∙ ap (λ b. shifted false b (r.id ∷ []) (lists i)) (folder_apart rows from to kept.tree from_is to_is stay absent w is_w to i none)
        ∙ kept.children_are i ∙ ap (inside rows) is ∙ sym (ap (inside (map (moved_row from to) rows)) new_none)
    children_by i (Some s) is =
        let x : Row = row_with i s in
        let x_live : IsLive rows x = live_in slots i s is in
        let f : Filled (at new_slots i) i (moved_row from to x) = filled (at new_slots i) i (moved_row from to x) (row_now i ∙ ap (option_map (moved_row from to)) x_live) in
        list_moved rows from to kept.tree from_is to_is stay absent w is_w folder apart_to r r_live r_key x i (lists i) (new_lists i) x_live refl (kept.children_are i ∙ ap (inside rows) is) (lists_are i)
        ∙ ap (λ (k : Key). ids (filter (lies_in k) (map (moved_row from to) rows))) (sym f.key) ∙ sym (ap (inside (map (moved_row from to) rows)) f.is)

    -- each list is kept
    pub kept_moved : (new_order : List ℕ) → Ordered (live 0 new_slots) new_order → Kept new_slots all new_order new_lists new_repos
    kept_moved new_order ordered = record {
      tree = subst IsTree (sym is_new) (tree_moved rows from to kept.tree from_is to_is stay absent folder apart_to);
      all_is = kept.all_is ∙ sym (ids_map (moved_row from to) (keeps_id from to) rows) ∙ sym (ap ids is_new);
      order_is = ordered;
      children_are = λ i. children_by i (at slots i) refl ∙ sym (ap (λ (l : List Row). inside l (at new_slots i)) is_new);
      repos_are = λ q. repo_moved rows from to kept.tree from_is to_is stay absent w is_w folder apart_to r r_live r_key q (repos q) (new_repos q) (kept.repos_are q) (repos_are q) ∙ sym (ap (λ (l : List Row). ids (filter (is_of q) l)) is_new);
    }
