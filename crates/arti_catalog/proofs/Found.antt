-- What stands at a key, in the tree and among the items.
use Rattle.std.proofs.Common.{◌≡◌, ℕ, ◌+◌, ◌≤◌, eqb, arith, Bool, true, false, cond, List, [], ◌∷◌, Option, Some, None, refl, sym, ap, subst, ◌∙◌, Ordering, Less, Equal, Greater}
use Rattle.std.specs.Prelude.{All, ◌&&◌, ◌||◌, filter, is_some, option_map, unwrap_or, count_by, length}
use Rattle.std.specs.List.{find, list_any}
use Rattle.std.specs.Option.{option_or, option_map_or}
use Rattle.std.specs.Ordering.{is_lt}
use Rattle.std.proofs.lemmas.Bool.{eq-eqb, ne_eqb}
use Rattle.std.proofs.lemmas.List.Folds.{find-append}
use Rattle.std.proofs.lemmas.List.Elements.{All-head, All-tail}
use Rattle.std.proofs.lemmas.List.Sums.{sum_by-cons}
use Rattle.arti_rows.specs.Key.{Key, key_cmp, same_key}
use Rattle.arti_rows.specs.KeyLaws.{key_cmp-Less, key_cmp-Greater, key_cmp-Equal, same_key-Less, same_key-Greater, same_key-refl, same_key-true, same_key-apart}
use Rattle.arti_rows.specs.declared.rows.ItemRow.{ItemRow}
use Rattle.arti_tree.specs.Rows.{Row, row_at, row_of, RowsFrom}
use Rattle.arti_tree.specs.Kept.{Rising}
use Rattle.arti_tree.specs.ByKey.{put_row, by_key, KeysOnce}
use Rattle.arti_tree.specs.ByKeyLaws.{by_key_rising, by_key_counts}
use Rattle.arti_model.specs.Store.{find_item, has_item, has_file, is_file, item_of_row}
use Rattle.arti_model.specs.Laws.{find-map, list_any-map}
use Rattle.arti_catalog.specs.Held.{Fits, HasRow, item_with, items_of, no_row, at}

-- ---- lists

-- by a test that answers b wherever the other passes
module _ {X : Type 0} (test p : X → Bool) (b : Bool) (same : (x : X) → test x ≡ true → p x ≡ b) where
  none_of : (v : Bool) (o : Option X) → o ≡ None → None ≡ cond v o None
  none_of true o e = sym e
  none_of false o e = refl

  filter_by : (x : X) (t q : Bool) (rest found : Option X) → test x ≡ t → p x ≡ q → rest ≡ cond b found None → cond q (cond t (Some x) rest) rest ≡ cond b (cond t (Some x) found) None
  filter_by x false true rest found e f more = more
  filter_by x false false rest found e f more = more
  filter_by x true true rest found e f more = ap (λ c. cond c (Some x) None) (sym f ∙ same x e)
  filter_by x true false rest found e f more = more ∙ ap (λ c. cond c found None) (sym (same x e) ∙ f) ∙ ap (λ c. cond c (Some x) None) (sym f ∙ same x e)

  find-cond : (q : Bool) (x : X) (xs : List X) → find test (cond q (x ∷ xs) xs) ≡ cond q (cond (test x) (Some x) (find test xs)) (find test xs)
  find-cond true x xs = refl
  find-cond false x xs = refl

  pub find-filter : (xs : List X) → find test (filter p xs) ≡ cond b (find test xs) None
  find-filter [] = none_of b None refl
  find-filter (x ∷ xs) = find-cond (p x) x (filter p xs) ∙ filter_by x (test x) (p x) (find test (filter p xs)) (find test xs) refl refl (find-filter xs)

pub is_some-find : {X : Type 0} (p : X → Bool) (xs : List X) → is_some (find p xs) ≡ list_any p xs
is_some-find p [] = refl
is_some-find p (x ∷ xs) = rw (sym (is_some-find p xs)) (elim (p x) as (λ b. is_some (cond b (Some x) (find p xs)) ≡ (b || is_some (find p xs))) [ true ↦ refl | false ↦ refl ])

has_by : {X : Type 0} (P : X → Type 0) (b : Bool) (x y : X) (rest : Option X) → P y → (rest ≡ Some x → P x) → cond b (Some y) rest ≡ Some x → P x
has_by {X = X} P true x y rest here more e = let Q : Option X → Type 0 = λ o. P (unwrap_or o y) in subst Q e here
has_by P false x y rest here more e = more e

pub found_has : {X : Type 0} (P : X → Type 0) (p : X → Bool) (xs : List X) (x : X) → All P xs → find p xs ≡ Some x → P x
found_has P p [] x all e = cc
found_has P p (y ∷ xs) x all e = has_by P (p y) x y (find p xs) (All-head P y xs all) (λ more. found_has P p xs x (All-tail P y xs all) more) e

-- ---- what is found in a tree stands at its id

least_by : (b : Bool) (n : ℕ) (x r : Row) (rest : Option Row) → n ≤ x.id → cond b (Some x) rest ≡ Some r → (rest ≡ Some r → n ≤ r.id) → n ≤ r.id
least_by true n x r rest le e more = let same : x ≡ r = cc in omega (arith, ap (λ (y : Row). y.id) same)
least_by false n x r rest le e more = more e

found_least : (p : Row → Bool) (n : ℕ) (rows : List Row) (r : Row) → RowsFrom n rows → find p rows ≡ Some r → n ≤ r.id
found_least p n [] r up e = cc
found_least p n (x ∷ rows) r up e = least_by (p x) n x r (find p rows) up.0 e (λ more. omega (arith, up.0, found_least p (x.id + 1) rows r up.1 more))

live_by : (b : Bool) (x r : Row) (rest found : Option Row) → cond b (Some x) rest ≡ Some r → (rest ≡ Some r → (x.id + 1 ≤ r.id) × (found ≡ Some r)) → cond (eqb x.id r.id) (Some x) found ≡ Some r
live_by true x r rest found e more = let same : x ≡ r = cc in ap (λ t. cond t (Some x) found) (eq-eqb x.id r.id (ap (λ (y : Row). y.id) same)) ∙ e
live_by false x r rest found e more = let both = more e in ap (λ t. cond t (Some x) found) (ne_eqb x.id r.id (λ same. omega (arith, both.0))) ∙ both.1

pub found_live : (p : Row → Bool) (n : ℕ) (rows : List Row) (r : Row) → RowsFrom n rows → find p rows ≡ Some r → row_of rows r.id ≡ Some r
found_live p n [] r up e = cc
found_live p n (x ∷ rows) r up e =
    live_by (p x) x r (find p rows) (row_of rows r.id) e (λ more. (found_least p (x.id + 1) rows r up.1 more, found_live p (x.id + 1) rows r up.1 more))

-- ---- the row of a key among those in the default order

module _ (k : Key) where
  abbrev is_at : Row → Bool
  is_at r = same_key r.key k

  module _ (new : Row) (rows : List Row) where
    abbrev low : Row → Bool
    low r = is_lt (key_cmp r.key new.key)

    abbrev high : Row → Bool
    high r = is_lt (key_cmp new.key r.key)

    cut : find is_at (put_row new rows) ≡ option_or (find is_at (filter low rows)) (cond (is_at new) (Some new) (find is_at (filter high rows)))
    cut = find-append is_at (filter low rows) (new ∷ filter high rows)

    lows : (b : Bool) → is_lt (key_cmp k new.key) ≡ b → find is_at (filter low rows) ≡ cond b (find is_at rows) None
    lows b is = find-filter is_at low b (λ r here. ap (λ (key : Key). is_lt (key_cmp key new.key)) (same_key-true r.key k here) ∙ is) rows

    highs : (b : Bool) → is_lt (key_cmp new.key k) ≡ b → find is_at (filter high rows) ≡ cond b (find is_at rows) None
    highs b is = find-filter is_at high b (λ r here. ap (λ (key : Key). is_lt (key_cmp new.key key)) (same_key-true r.key k here) ∙ is) rows

    or_none : (o : Option Row) → option_or o None ≡ o
    or_none None = refl
    or_none (Some x) = refl

    find_by : (o : Ordering) → key_cmp k new.key ≡ o → find is_at (put_row new rows) ≡ cond (is_at new) (Some new) (find is_at rows)
    find_by Less is =
        let other : is_at new ≡ false = same_key-Greater new.key k (key_cmp-Less k new.key is) in
        cut ∙ rw (lows true (ap is_lt is), highs false (ap is_lt (key_cmp-Less k new.key is)), other) (or_none (find is_at rows))
    find_by Equal is =
        let here : is_at new ≡ true = ap (λ (key : Key). same_key key k) (sym (key_cmp-Equal k new.key is)) ∙ same_key-refl k in
        cut ∙ rw (lows false (ap is_lt is), here) refl
    find_by Greater is =
        let other : is_at new ≡ false = same_key-Less new.key k (key_cmp-Greater k new.key is) in
        cut ∙ rw (lows false (ap is_lt is), highs true (ap is_lt (key_cmp-Greater k new.key is)), other) refl

  find-put : (new : Row) (rows : List Row) → find is_at (put_row new rows) ≡ cond (is_at new) (Some new) (find is_at rows)
  find-put new rows = find_by new rows (key_cmp k new.key) refl

  pub find-by_key : (rows : List Row) → find is_at (by_key rows) ≡ row_at rows k
  find-by_key [] = refl
  find-by_key (r ∷ rows) = find-put r (by_key rows) ∙ ap (λ (o : Option Row). cond (is_at r) (Some r) o) (find-by_key rows)

  none_behind : (q : Row → Bool) (x : Row) (rows : List Row) → is_at x ≡ true → All (λ y. key_cmp x.key y.key ≡ Less) rows → list_any (λ r. is_at r && q r) rows ≡ false
  none_behind q x [] here all = refl
  none_behind q x (y ∷ rows) here all =
      let Q : Row → Type 0 = λ y. key_cmp x.key y.key ≡ Less in
      rw (same_key-apart x.key y.key k (All-head Q y rows all) here, none_behind q x rows here (All-tail Q y rows all)) refl

  only_by : (b t : Bool) (x : Row) (q : Row → Bool) (rest : Bool) (found : Option Row) → q x ≡ t → (b ≡ true → rest ≡ false) → (b ≡ false → rest ≡ option_map_or q found false) → (b && t || rest) ≡ option_map_or q (cond b (Some x) found) false
  only_by true true x q rest found is none more = sym is
  only_by true false x q rest found is none more = none refl ∙ sym is
  only_by false t x q rest found is none more = more refl

  -- of rows that rise one at most has the key
  only_one : (q : Row → Bool) (rows : List Row) → Rising rows → list_any (λ r. is_at r && q r) rows ≡ option_map_or q (find is_at rows) false
  only_one q [] up = refl
  only_one q (x ∷ rows) up =
      only_by (is_at x) (q x) x q (list_any (λ r. is_at r && q r) rows) (find is_at rows) refl (λ here. none_behind q x rows here up.0) (λ _. only_one q rows up.1)

counted_all : (rows : List Row) → count_by (λ _. true) rows ≡ length rows
counted_all [] = refl
counted_all (r ∷ rows) = omega (arith, sum_by-cons (λ (_ : Row). cond true 1 0) r rows, counted_all rows)

-- as many stand in the default order
pub length-by_key : (rows : List Row) → KeysOnce rows → length (by_key rows) ≡ length rows
length-by_key rows once = sym (counted_all (by_key rows)) ∙ by_key_counts rows once (λ _. true) ∙ counted_all rows

-- ---- items

module _ (tree : List Row) (rows : List (Option ItemRow)) (k : Key) where
  -- the item of a key is that of its row in the tree
  pub find_is : find_item (items_of tree rows) k ≡ option_map (item_with rows) (row_at tree k)
  find_is =
      find-map (item_with rows) (λ r. same_key r.key k) (λ item. same_key item.key k) (λ r. refl) (by_key tree)
      ∙ ap (option_map (item_with rows)) (find-by_key k tree)

  pub has_is : has_item (items_of tree rows) k ≡ is_some (row_at tree k)
  has_is =
      list_any-map (item_with rows) (λ r. same_key r.key k) (λ item. same_key item.key k) (λ r. refl) (by_key tree)
      ∙ sym (is_some-find (λ r. same_key r.key k) (by_key tree)) ∙ ap (λ (o : Option Row). is_some o) (find-by_key k tree)

  -- the item of a row that is there is that row's
  pub item_is : (r : Row) → HasRow rows r → (row : ItemRow) → at rows r.id ≡ Some row → item_with rows r ≡ item_of_row row
  item_is r has row there =
      let same : Some has.row ≡ Some row = sym has.there ∙ there in
      let key : row.key ≡ r.key = ap (λ (o : Option ItemRow). (unwrap_or o row).key) (sym same) ∙ has.key in
      ap (λ (o : Option ItemRow). record (item_of_row (unwrap_or o no_row)) { key = r.key }) there ∙ ap (λ (key : Key). record (item_of_row row) { key = key }) (sym key)

  kind_is : (r : Row) → HasRow rows r → is_file (item_with rows r) ≡ r.is_file
  kind_is r has = ap (λ (o : Option ItemRow). is_some (unwrap_or o no_row).file) has.there ∙ has.kind

  pub has_file_is : All (HasRow rows) tree → has_file (items_of tree rows) k ≡ option_map_or (λ r. r.is_file) (row_at tree k) false
  has_file_is all =
      list_any-map (item_with rows) (λ r. same_key r.key k && is_file (item_with rows r)) (λ item. same_key item.key k && is_file item) (λ r. refl) (by_key tree)
      ∙ only_one k (λ r. is_file (item_with rows r)) (by_key tree) (by_key_rising tree)
      ∙ ap (λ (o : Option Row). option_map_or (λ r. is_file (item_with rows r)) o false) (find-by_key k tree)
      ∙ by (row_at tree k) refl
    where
      by : (o : Option Row) → row_at tree k ≡ o → option_map_or (λ r. is_file (item_with rows r)) o false ≡ option_map_or (λ r. r.is_file) o false
      by None is = refl
      by (Some r) is = kind_is r (found_has (HasRow rows) (λ x. same_key x.key k) tree r all is)

  -- what is told of the row of a key
  pub looked_up : Fits tree rows → (id : ℕ) → Some id ≡ option_map (λ r. r.id) (row_at tree k) → (r : Row) × (row_at tree k ≡ Some r) × (r.id ≡ id) × (row_of tree id ≡ Some r) × HasRow rows r
  looked_up fits id is = by (row_at tree k) refl is
    where
      by : (o : Option Row) → row_at tree k ≡ o → Some id ≡ option_map (λ r. r.id) o → (r : Row) × (row_at tree k ≡ Some r) × (r.id ≡ id) × (row_of tree id ≡ Some r) × HasRow rows r
      by None e same = cc
      by (Some r) e same =
          let here : r.id ≡ id = cc in
          (r, e, here, ap (row_of tree) (sym here) ∙ found_live (λ x. same_key x.key k) 0 tree r fits.rules.ascend e, found_has (HasRow rows) (λ x. same_key x.key k) tree r fits.each e)
