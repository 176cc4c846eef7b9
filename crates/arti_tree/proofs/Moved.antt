-- The rows of a tree as one of them gets another key, and those beneath it with it.
use Rattle.std.proofs.Common.{◌≡◌, ◌≢◌, ℕ, ◌+◌, ◌<◌, ◌^◌, ◌⊎◌, ⊎_elim, inl, inr, Bool, true, false, cond, List, ◌∷◌, ◌++◌, length, Option, Some, None, refl, sym, ap, ◌∙◌, subst, arith}
use Rattle.std.specs.Prelude.{map}
use Rattle.std.proofs.lemmas.List.{length-map, append_cancel_left}
use Rattle.arti_rows.specs.Key.{Key, key_of, whole_of, same_key}
use Rattle.arti_rows.specs.Names.{IsKey}
use Rattle.arti_tree.specs.Rows.{Row, row_at, has_folder, folder_of, lies_in, IsFolder, HasFolder, IsLive, IsTree}
use Rattle.arti_tree.specs.Renames.{is_within, moved, moved_whole, moved_row, StayKeys}
use Rattle.arti_tree.proofs.Rises.{found_live, found_passes}
use Rattle.arti_tree.proofs.Folders.{none_in, none_passes}
use Rattle.arti_tree.proofs.Above.{folder_whole, folder_key}
use Rattle.arti_tree.proofs.Beneath.{beneath_in}
use Rattle.arti_tree.proofs.Under.{Under, Path, Within, within_cases, within_is, within_itself, under_within, under_beneath, whole_moved, whole_made, key_made, moved_top, moved_parts, path_under, within_folder, folder_in}
use Rattle.arti_tree.proofs.Mapped.{rows_from_map, was, at_new, differ_new, same_new, one_key}
use Rattle.arti_rows.specs.KeyLaws.{same_key-true, same_key-refl}
use Rattle.std.proofs.lemmas.Bool.{false_from_ne_true, cases_Bool}

none_some : {o : Option Row} {x : Row} → o ≡ None → o ≡ Some x → ⊥
none_some {o} {x} n s = let e : None ≡ Some x = sym n ∙ s in cc

false_true : (b : Bool) → b ≡ false → b ≡ true → ⊥
false_true b e f = let no : false ≡ true = sym e ∙ f in cc

pub moved_yes : (from to k : Key) → is_within from k ≡ true → moved from to k ≡ key_of to.repo (moved_whole from to k)
moved_yes from to k e = ap (λ b. cond b (key_of to.repo (moved_whole from to k)) k) e

pub moved_no : (from to k : Key) → is_within from k ≡ false → moved from to k ≡ k
moved_no from to k e = ap (λ b. cond b (key_of to.repo (moved_whole from to k)) k) e

pub keeps_id : (from to : Key) (r : Row) → (moved_row from to r).id ≡ r.id
keeps_id from to r = refl

-- the row of a folder that is there
pub record FolderRow (rows : List Row) (k : Key) : Type 0 where
  pub row : Row
  pub live : IsLive rows row
  pub key : row.key ≡ folder_of k
  pub folder : row.is_file ≡ false

-- a row with the row of the folder that it lies in, before and after
pub record Lying (rows : List Row) (from to : Key) (x : Row) : Type 0 where
  pub folder : FolderRow rows x.key
  pub has : has_folder (moved_row from to x).key ≡ true
  pub after : folder_of (moved_row from to x).key ≡ (moved_row from to folder.row).key

module _ (rows : List Row) (from to : Key) (tree : IsTree rows) (from_is : IsKey from) (to_is : IsKey to) (stay : StayKeys rows from to) (absent : row_at rows to ≡ None) where
  abbrev pub g : Row → Row
  g = moved_row from to

  -- nothing lies beneath a key that isn't there
  none_under : (x : Row) → IsLive rows x → Under to x.key → ⊥
  none_under x live u =
      let p = beneath_in rows tree to (length (whole_of x.key) + 1) x (omega arith) live (under_beneath to x.key to_is u) in
      none_passes (lies_in to) rows p.row (none_in rows to tree absent) p.live p.passes

  -- the row that a key within gets
  within : (x : Row) → IsLive rows x → is_within from x.key ≡ true → Within from x.key
  within x live e = within_is from x.key (tree.keys x live) e

  moved_whole_is : (x : Row) (live : IsLive rows x) (e : is_within from x.key ≡ true) → whole_of (moved from to x.key) ≡ whole_of to ++ (within x live e).rest
  moved_whole_is x live e = ap whole_of (moved_yes from to x.key e) ∙ whole_made to.repo (moved_whole from to x.key) (stay x live e) ∙ whole_moved from to x.key (within x live e)

  moved_repo : (k : Key) → is_within from k ≡ true → (moved from to k).repo ≡ to.repo
  moved_repo k e = ap (λ (j : Key). j.repo) (moved_yes from to k e)

  -- a new key is no old one
  pub new_absent : (x y : Row) → IsLive rows x → IsLive rows y → is_within from y.key ≡ true → moved from to y.key ≡ x.key → ⊥
  new_absent x y x_live y_live e same = ⊎_elim
      (λ (top : y.key ≡ from).
      let to_is_it : moved from to y.key ≡ to = moved_yes from to y.key e ∙ ap (λ (k : Key). key_of to.repo (moved_whole from to k)) top ∙ moved_top from to to_is in
      none_some (subst (λ (k : Key). row_at rows k ≡ None) (sym to_is_it ∙ same) absent) (tree.differ x x_live))
      (λ (u : Under from y.key).
      let w : Within from y.key = record { repo = u.repo; rest = 47 ∷ u.tail; whole = u.whole } in
      let whole : whole_of (moved from to y.key) ≡ whole_of to ++ 47 ∷ u.tail = ap whole_of (moved_yes from to y.key e) ∙ whole_made to.repo (moved_whole from to y.key) (stay y y_live e) ∙ whole_moved from to y.key w in
      none_under x x_live (record { repo = ap (λ (k : Key). k.repo) (sym same) ∙ moved_repo y.key e; tail = u.tail; whole = ap whole_of (sym same) ∙ whole }))
      (within_cases from y.key (tree.keys y y_live) e)

  both_within : (x y : Row) → IsLive rows x → IsLive rows y → is_within from x.key ≡ true → is_within from y.key ≡ true → moved from to x.key ≡ moved from to y.key → x.key ≡ y.key
  both_within x y x_live y_live e f same =
      let w = within x x_live e in
      let v = within y y_live f in
      let rests : w.rest ≡ v.rest = append_cancel_left (whole_of to) w.rest v.rest (sym (moved_whole_is x x_live e) ∙ ap whole_of same ∙ moved_whole_is y y_live f) in
      let wholes : whole_of x.key ≡ whole_of y.key = w.whole ∙ ap (λ (l : List ℕ). whole_of from ++ l) rests ∙ sym v.whole in
      let repos : x.key.repo ≡ y.key.repo = w.repo ∙ sym v.repo in
      sym (tree.keys x x_live).cut ∙ ap (λ (q : List ℕ). key_of q (whole_of x.key)) repos ∙ ap (λ (l : List ℕ). key_of y.key.repo l) wholes ∙ (tree.keys y y_live).cut

  -- rows that get the same key are the same
  pub apart : (x y : Row) → IsLive rows x → IsLive rows y → (g x).key ≡ (g y).key → x ≡ y
  apart x y x_live y_live same = one_key rows x y tree.differ x_live y_live (⊎_elim
      (λ (e : is_within from x.key ≡ true). ⊎_elim
      (λ (f : is_within from y.key ≡ true). both_within x y x_live y_live e f same)
      (λ (f : is_within from y.key ≡ false). absurd (new_absent y x y_live x_live e (same ∙ moved_no from to y.key f)))
      (cases_Bool (is_within from y.key)))
      (λ (e : is_within from x.key ≡ false). ⊎_elim
      (λ (f : is_within from y.key ≡ true). absurd (new_absent x y x_live y_live f (sym same ∙ moved_no from to x.key e)))
      (λ (f : is_within from y.key ≡ false). sym (moved_no from to x.key e) ∙ same ∙ moved_no from to y.key f)
      (cases_Bool (is_within from y.key)))
      (cases_Bool (is_within from x.key)))

  pub same_keys : (x y : Row) → IsLive rows x → IsLive rows y → same_key (g x).key (g y).key ≡ same_key x.key y.key
  same_keys x y x_live y_live = same_new g (keeps_id from to) rows tree.ascend tree.differ apart x y x_live y_live

  pub at_moved : (x : Row) → IsLive rows x → row_at (map g rows) (g x).key ≡ Some (g x)
  at_moved x live = at_new g (keeps_id from to) rows tree.ascend tree.differ apart x live

  folder_row : (k : Key) → IsFolder rows (folder_of k) → FolderRow rows k
  folder_row k f = record {
    row = f.row;
    live = found_live (λ y. same_key y.key (folder_of k)) 0 rows f.row tree.ascend f.there;
    key = same_key-true f.row.key (folder_of k) (found_passes (λ y. same_key y.key (folder_of k)) rows f.row f.there);
    folder = f.folder;
  }

  -- what lies in a folder within is within
  up_within : (x f : Row) → IsLive rows x → IsLive rows f → has_folder x.key ≡ true → f.key ≡ folder_of x.key → is_within from f.key ≡ true → is_within from x.key ≡ true
  up_within x f x_live f_live has same e =
      let is = tree.keys x x_live in
      under_within from x.key from_is (within_folder from x.key from_is is has (ap (is_within from) (sym same) ∙ e) (folder_key x.key is has))

  lying_beneath : (x : Row) → IsLive rows x → is_within from x.key ≡ true → Under from x.key → FolderRow rows x.key → Lying rows from to x
  lying_beneath x live e u f =
      let is = tree.keys x live in
      let p : Path from x.key = path_under from x.key is u in
      let parts : (g x).key ≡ record { repo = to.repo; path = whole_of to ++ p.rest; name = x.key.name } = moved_yes from to x.key e ∙ moved_parts from to x.key is p in
      let w : Within from (folder_of x.key) = record { repo = u.repo; rest = p.rest; whole = folder_whole x.key is p.has ∙ p.path } in
      let f_key = folder_key x.key is p.has in
      let f_in : is_within from (folder_of x.key) ≡ true = folder_in from x.key from_is is p u.repo in
      let f_moved : (g f.row).key ≡ key_of to.repo (whole_of to ++ p.rest) = ap (moved from to) f.key ∙ moved_yes from to (folder_of x.key) f_in ∙ ap (λ (l : List ℕ). key_of to.repo l) (whole_moved from to (folder_of x.key) w) in
      let moved_is : IsKey (g x).key = subst IsKey (sym (moved_yes from to x.key e)) (key_made to.repo (moved_whole from to x.key) (stay x live e)) in
      let up : Under to (g x).key = record {
        repo = moved_repo x.key e;
        tail = u.tail;
        whole = ap whole_of (moved_yes from to x.key e) ∙ whole_made to.repo (moved_whole from to x.key) (stay x live e) ∙ whole_moved from to x.key (record { repo = u.repo; rest = 47 ∷ u.tail; whole = u.whole });
      } in
      let q : Path to (g x).key = path_under to (g x).key moved_is up in
      record { folder = f; has = q.has; after = ap folder_of parts ∙ sym f_moved }

  pub lying : (x : Row) → IsLive rows x → has_folder x.key ≡ true → x.key ≢ from → Lying rows from to x
  lying x live has ne =
      let f : FolderRow rows x.key = folder_row x.key (tree.folders x live has) in
      ⊎_elim
      (λ (e : is_within from x.key ≡ true). ⊎_elim (λ (top : x.key ≡ from). absurd (ne top)) (λ (u : Under from x.key). lying_beneath x live e u f) (within_cases from x.key (tree.keys x live) e))
      (λ (e : is_within from x.key ≡ false).
      let f_out : is_within from f.row.key ≡ false = false_from_ne_true (is_within from f.row.key) (λ in_it. false_true (is_within from x.key) e (up_within x f.row live f.live has f.key in_it)) in
      let l : Lying rows from to x = record { folder = f; has = ap has_folder (moved_no from to x.key e) ∙ has; after = ap folder_of (moved_no from to x.key e) ∙ sym f.key ∙ sym (moved_no from to f.row.key f_out) } in l)
      (cases_Bool (is_within from x.key))

  module _ (folder : HasFolder rows to) (apart_to : is_within from to ≡ false) where
    -- the folder of the new key isn't moved
    pub to_folder : has_folder to ≡ true → FolderRow rows to
    to_folder has = folder_row to (folder has)

    pub to_stays : (has : has_folder to ≡ true) → (g (to_folder has).row).key ≡ folder_of to
    to_stays has =
        let f = to_folder has in
        let out : is_within from f.row.key ≡ false = false_from_ne_true (is_within from f.row.key) (λ e. false_true (is_within from to) apart_to
        (under_within from to from_is (within_folder from to from_is to_is has (ap (is_within from) (sym f.key) ∙ e) (folder_key to to_is has)))) in
        moved_no from to f.row.key out ∙ f.key

    pub top_moved : (x : Row) → x.key ≡ from → (g x).key ≡ to
    top_moved x e = ap (moved from to) e ∙ moved_yes from to from (within_itself from) ∙ moved_top from to to_is

    new_folder : (x : Row) → IsLive rows x → HasFolder (map g rows) (g x).key
    new_folder x live has = ⊎_elim
        (λ (top : x.key ≡ from).
        let e : (g x).key ≡ to = top_moved x top in
        let to_has : has_folder to ≡ true = sym (ap has_folder e) ∙ has in
        let f = to_folder to_has in
        let at : row_at (map g rows) (folder_of (g x).key) ≡ Some (g f.row) = ap (λ (k : Key). row_at (map g rows) (folder_of k)) e ∙ ap (row_at (map g rows)) (sym (to_stays to_has)) ∙ at_moved f.row f.live in
        let r : IsFolder (map g rows) (folder_of (g x).key) = record { row = g f.row; there = at; folder = f.folder } in r)
        (λ (ne : x.key ≢ from). by_has x live ne (has_folder x.key) refl has)
        (key_cases x.key from)
      where
        key_cases : (a b : Key) → (a ≡ b) ⊎ (a ≢ b)
        key_cases a b = ⊎_elim (λ (e : same_key a b ≡ true). inl (same_key-true a b e)) (λ (e : same_key a b ≡ false). inr (λ same. false_true (same_key a b) e (ap (λ (k : Key). same_key k b) same ∙ same_key-refl b))) (cases_Bool (same_key a b))

        by_has : (x : Row) → IsLive rows x → x.key ≢ from → (b : Bool) → has_folder x.key ≡ b → has_folder (g x).key ≡ true → IsFolder (map g rows) (folder_of (g x).key)
        by_has x live ne true was has =
            let l : Lying rows from to x = lying x live was ne in
            record { row = g l.folder.row; there = ap (row_at (map g rows)) l.after ∙ at_moved l.folder.row l.folder.live; folder = l.folder.folder }
        by_has x live ne false was has =
            -- at the root it isn't within
            absurd (rooted x live ne was has)
          where
            rooted : (x : Row) → IsLive rows x → x.key ≢ from → has_folder x.key ≡ false → has_folder (g x).key ≡ true → ⊥
            rooted x live ne was has = ⊎_elim
                (λ (e : is_within from x.key ≡ true). ⊎_elim (λ (top : x.key ≡ from). ne top) (λ (u : Under from x.key). let p = path_under from x.key (tree.keys x live) u in false_true (has_folder x.key) was p.has) (within_cases from x.key (tree.keys x live) e))
                (λ (e : is_within from x.key ≡ false). false_true (has_folder x.key) was (sym (ap has_folder (moved_no from to x.key e)) ∙ has))
                (cases_Bool (is_within from x.key))

    new_key : (x : Row) → IsLive rows x → IsKey (g x).key
    new_key x live = ⊎_elim
        (λ (e : is_within from x.key ≡ true). subst IsKey (sym (moved_yes from to x.key e)) (key_made to.repo (moved_whole from to x.key) (stay x live e)))
        (λ (e : is_within from x.key ≡ false). subst IsKey (sym (moved_no from to x.key e)) (tree.keys x live))
        (cases_Bool (is_within from x.key))

    pub tree_moved : IsTree (map g rows)
    tree_moved = record {
      ascend = rows_from_map g (keeps_id from to) 0 rows tree.ascend;
      few = subst (λ (n : ℕ). n < 2 ^ 32) (sym (length-map rows g)) tree.few;
      keys = λ x is. let w = was g (keeps_id from to) rows tree.ascend x is in subst (λ (r : Row). IsKey r.key) w.is (new_key w.row w.live);
      differ = differ_new g (keeps_id from to) rows tree.ascend tree.differ apart;
      folders = λ x is. let w = was g (keeps_id from to) rows tree.ascend x is in subst (λ (r : Row). HasFolder (map g rows) r.key) w.is (new_folder w.row w.live);
    }
