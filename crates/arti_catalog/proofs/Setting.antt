-- Another row at the id of a key.
use Rattle.std.proofs.Common.{◌≡◌, ◌≢◌, ℕ, Bool, true, false, cond, eqb, List, [], ◌∷◌, ◌++◌, get_or, Option, Some, refl, sym, ap, subst, ◌∙◌, Ordering, Less, Equal, Greater}
use Rattle.std.specs.Prelude.{All, ℤ, ◌&&◌, ◌||◌, not, option_map, map, filter, is_some, unwrap_or}
use Rattle.std.specs.List.{find}
use Rattle.std.specs.Option.{option_map_or}
use Rattle.std.specs.Ordering.{is_lt}
use Rattle.std.proofs.lemmas.Bool.{eqb-false, eq-eqb, ne_eqb}
use Rattle.std.proofs.lemmas.List.Elements.{All-head, All-tail, All-filter, filter_passes}
use Rattle.arti_rows.specs.Key.{Key, key_cmp, same_key, folders_above}
use Rattle.arti_rows.specs.KeyLaws.{key_cmp-refl, key_cmp-Less, same_key-Less, same_key-Greater, same_key-true}
use Rattle.arti_rows.specs.declared.rows.FileRef.{FileRef}
use Rattle.arti_rows.specs.declared.rows.ItemRow.{ItemRow}
use Rattle.arti_tree.specs.Rows.{Row, row_at, row_of, IsLive, IsFolder}
use Rattle.arti_tree.specs.Kept.{Rising}
use Rattle.arti_tree.specs.ByKey.{put_row, by_key}
use Rattle.arti_tree.specs.ByKeyLaws.{by_key_rising}
use Rattle.arti_model.specs.Store.{Item, has_item, has_file, put_item, put_items, new_folder, missing_folders, item_of_row}
use Rattle.arti_model.specs.Apply.{has_folder, counted, with_download}
use Rattle.arti_model.specs.Laws.{filter-map}
use Rattle.arti_catalog.specs.Held.{Fits, HasRow, IsSet, at, item_with, items_of, no_row, counted_row}
use Rattle.arti_catalog.specs.LiveLaws.{all_live, All-by_key}
use Rattle.arti_catalog.proofs.Found.{found_has, found_live, find-by_key, has_is, has_file_is, item_is, looked_up}
use Rattle.arti_catalog.proofs.Changing.{is_true}
use Rattle.arti_catalog.proofs.Adding.{same_items, puts_items}

-- ---- rows of a tree

passes_by : {X : Type 0} (p : X → Bool) (b : Bool) (y x : X) (rest : Option X) → p y ≡ b → cond b (Some y) rest ≡ Some x → (rest ≡ Some x → p x ≡ true) → p x ≡ true
passes_by p true y x rest is e more = let same : y ≡ x = cc in ap p (sym same) ∙ is
passes_by p false y x rest is e more = more e

pub found_passes : {X : Type 0} (p : X → Bool) (xs : List X) (x : X) → find p xs ≡ Some x → p x ≡ true
found_passes p [] x e = cc
found_passes p (y ∷ xs) x e = passes_by p (p y) y x (find p xs) refl e (λ more. found_passes p xs x more)

-- ---- a row among those in the default order

behind_all : (r : Row) (l : List Row) → All (λ y. key_cmp r.key y.key ≡ Less) l → filter (λ x. is_lt (key_cmp r.key x.key)) l ≡ l
behind_all r [] all = refl
behind_all r (x ∷ l) all =
    let Q : Row → Type 0 = λ y. key_cmp r.key y.key ≡ Less in
    let high : List Row = filter (λ x. is_lt (key_cmp r.key x.key)) l in
    ap (λ o. cond (is_lt o) (x ∷ high) high) (All-head Q x l all) ∙ ap (λ (m : List Row). x ∷ m) (behind_all r l (All-tail Q x l all))

before_none : (r : Row) (l : List Row) → All (λ y. key_cmp r.key y.key ≡ Less) l → filter (λ x. is_lt (key_cmp x.key r.key)) l ≡ []
before_none r [] all = refl
before_none r (x ∷ l) all =
    let Q : Row → Type 0 = λ y. key_cmp r.key y.key ≡ Less in
    let low : List Row = filter (λ x. is_lt (key_cmp x.key r.key)) l in
    ap (λ o. cond (is_lt o) (x ∷ low) low) (key_cmp-Less r.key x.key (All-head Q x l all)) ∙ before_none r l (All-tail Q x l all)

first_put : (x : Row) (l : List Row) → All (λ y. key_cmp x.key y.key ≡ Less) l → put_row x (x ∷ l) ≡ x ∷ l
first_put x l all =
    let low : List Row = filter (λ y. is_lt (key_cmp y.key x.key)) l in
    let high : List Row = filter (λ y. is_lt (key_cmp x.key y.key)) l in
    ap (λ o. cond (is_lt o) (x ∷ low) low ++ x ∷ cond (is_lt o) (x ∷ high) high) (key_cmp-refl x.key)
    ∙ ap (λ (m : List Row). m ++ x ∷ high) (before_none x l all) ∙ ap (λ (m : List Row). x ∷ m) (behind_all x l all)

there_by : (k : Key) (r x : Row) (l : List Row) (b : Bool) → All (λ y. key_cmp x.key y.key ≡ Less) l → cond b (Some x) (find (λ x. same_key x.key k) l) ≡ Some r
    → (find (λ x. same_key x.key k) l ≡ Some r → put_row r l ≡ l) → put_row r (x ∷ l) ≡ x ∷ l
there_by k r x l true all e more = let same : x ≡ r = cc in let P : Row → Type 0 = λ y. put_row y (x ∷ l) ≡ x ∷ l in subst P same (first_put x l all)
there_by k r x l false all e more =
    let less : key_cmp x.key r.key ≡ Less = found_has (λ y. key_cmp x.key y.key ≡ Less) (λ x. same_key x.key k) l r all e in
    let low : List Row = filter (λ y. is_lt (key_cmp y.key r.key)) l in
    let high : List Row = filter (λ y. is_lt (key_cmp r.key y.key)) l in
    ap (λ o. cond (is_lt o) (x ∷ low) low ++ r ∷ cond (is_lt (key_cmp r.key x.key)) (x ∷ high) high) less
    ∙ ap (λ o. (x ∷ low) ++ r ∷ cond (is_lt o) (x ∷ high) high) (key_cmp-Less x.key r.key less)
    ∙ ap (λ (m : List Row). x ∷ m) (more e)

-- a row that is there is at its place
pub put_there : (k : Key) (r : Row) (l : List Row) → Rising l → find (λ x. same_key x.key k) l ≡ Some r → put_row r l ≡ l
put_there k r [] up e = cc
put_there k r (x ∷ l) up e = there_by k r x l (same_key x.key k) up.0 e (λ more. put_there k r l up.1 more)

-- ---- another row at the id of a key

module _ (tree : List Row) (rows next : List (Option ItemRow)) (key : Key) (r : Row) (new : ItemRow) (fits : Fits tree rows) (here : row_at tree key ≡ Some r) (set : IsSet rows next r.id new)
    (key_is : new.key ≡ r.key) (kind_is : is_some new.file ≡ r.is_file) where
  live : All (IsLive tree) tree
  live = all_live 0 tree fits.rules.ascend

  r_live : IsLive tree r
  r_live = found_live (λ x. same_key x.key key) 0 tree r fits.rules.ascend here

  r_at : same_key r.key key ≡ true
  r_at = found_passes (λ x. same_key x.key key) tree r here

  -- what stands at other keys stays
  apart : (x : Row) → IsLive tree x → same_key x.key key ≡ false → at next x.id ≡ at rows x.id
  apart x is other =
      set.each x.id
      ∙ ap (λ b. cond b (Some new) (at rows x.id)) (ne_eqb x.id r.id (λ e.
      let both : Some x ≡ Some r = sym is ∙ ap (row_of tree) e ∙ r_live in
      let same : x ≡ r = cc in
      let yes : same_key x.key key ≡ true = ap (λ (y : Row). same_key y.key key) same ∙ r_at in
      cc (yes, other)))

  it : (x : Row) → IsLive tree x → same_key x.key key ≡ true → r ≡ x
  it x is here_too =
      let both : Some r ≡ Some x = sym here ∙ ap (row_at tree) (sym (same_key-true x.key key here_too)) ∙ fits.rules.differ x is in
      cc

  at_new : at next r.id ≡ Some new
  at_new = set.each r.id ∙ ap (λ b. cond b (Some new) (at rows r.id)) (eq-eqb r.id r.id refl)

  has_new : HasRow next r
  has_new = record { row = new; there = at_new; key = key_is; kind = kind_is }

  has_each : (x : Row) → IsLive tree x → HasRow rows x → HasRow next x
  has_each x is old = by (same_key x.key key) refl
    where
      by : (b : Bool) → same_key x.key key ≡ b → HasRow next x
      by true e = let P : Row → Type 0 = λ y. HasRow next y in subst P (it x is e) has_new
      by false e = record { row = old.row; there = apart x is e ∙ old.there; key = old.key; kind = old.kind }

  pub set_fits : Fits tree next
  set_fits = record { rules = fits.rules; once = fits.once; each = λ k d lt. has_each (get_or tree k d) (live k d lt) (fits.each k d lt) }

  new_item : item_with next r ≡ item_of_row new
  new_item =
      ap (λ (o : Option ItemRow). record (item_of_row (unwrap_or o no_row)) { key = r.key }) at_new
      ∙ ap (λ (k : Key). record (item_of_row new) { key = k }) (sym key_is)

  stays : (x : Row) → at next x.id ≡ at rows x.id → item_with next x ≡ item_with rows x
  stays x same = ap (λ (o : Option ItemRow). record (item_of_row (unwrap_or o no_row)) { key = x.key }) same

  live_by_key : All (IsLive tree) (by_key tree)
  live_by_key = All-by_key (IsLive tree) tree live

  -- the item of the key changes
  module _ (f : Item FileRef → Item FileRef) (is : item_of_row new ≡ f (item_with rows r)) where
    one : (x : Row) → IsLive tree x → item_with next x ≡ cond (same_key x.key key) (f (item_with rows x)) (item_with rows x)
    one x lives = by (same_key x.key key) refl
      where
        by : (b : Bool) → same_key x.key key ≡ b → item_with next x ≡ cond b (f (item_with rows x)) (item_with rows x)
        by true e = let P : Row → Type 0 = λ y. item_with next y ≡ f (item_with rows y) in subst P (it x lives e) (new_item ∙ is)
        by false e = stays x (apart x lives e)

    each : (l : List Row) → All (IsLive tree) l → map (item_with next) l ≡ map (λ item. cond (same_key item.key key) (f item) item) (map (item_with rows) l)
    each [] all = refl
    each (x ∷ l) all =
        ap (λ (i : Item FileRef). i ∷ map (item_with next) l) (one x (All-head (IsLive tree) x l all))
        ∙ ap (λ (m : List (Item FileRef)). cond (same_key x.key key) (f (item_with rows x)) (item_with rows x) ∷ m) (each l (All-tail (IsLive tree) x l all))

    pub set_changes : items_of tree next ≡ map (λ item. cond (same_key item.key key) (f item) item) (items_of tree rows)
    set_changes = each (by_key tree) live_by_key

  -- the item of the key is put in the place of the one that was there
  lows : map (item_with next) (filter (λ x. is_lt (key_cmp x.key r.key)) (by_key tree)) ≡ map (item_with rows) (filter (λ x. is_lt (key_cmp x.key r.key)) (by_key tree))
  lows =
      let low : Row → Bool = λ x. is_lt (key_cmp x.key r.key) in
      same_items (filter low (by_key tree)) rows next (λ k d lt.
      let x : Row = get_or (filter low (by_key tree)) k d in
      let no : same_key x.key r.key ≡ false = lower x (key_cmp x.key r.key) refl (filter_passes low (by_key tree) k d lt) in
      apart x (All-filter low (IsLive tree) (by_key tree) live_by_key k d lt) (ap (same_key x.key) (sym (same_key-true r.key key r_at)) ∙ no))
    where
      lower : (x : Row) (o : Ordering) → key_cmp x.key r.key ≡ o → is_lt o ≡ true → same_key x.key r.key ≡ false
      lower x Less e is = same_key-Less x.key r.key e
      lower x Equal e is = cc
      lower x Greater e is = cc

  highs : map (item_with next) (filter (λ x. is_lt (key_cmp r.key x.key)) (by_key tree)) ≡ map (item_with rows) (filter (λ x. is_lt (key_cmp r.key x.key)) (by_key tree))
  highs =
      let high : Row → Bool = λ x. is_lt (key_cmp r.key x.key) in
      same_items (filter high (by_key tree)) rows next (λ k d lt.
      let x : Row = get_or (filter high (by_key tree)) k d in
      let no : same_key x.key r.key ≡ false = higher x (key_cmp r.key x.key) refl (filter_passes high (by_key tree) k d lt) in
      apart x (All-filter high (IsLive tree) (by_key tree) live_by_key k d lt) (ap (same_key x.key) (sym (same_key-true r.key key r_at)) ∙ no))
    where
      higher : (x : Row) (o : Ordering) → key_cmp r.key x.key ≡ o → is_lt o ≡ true → same_key x.key r.key ≡ false
      higher x Less e is = same_key-Greater x.key r.key (key_cmp-Less r.key x.key e)
      higher x Equal e is = cc
      higher x Greater e is = cc

  pub set_puts : items_of tree next ≡ put_item (item_of_row new) (items_of tree rows)
  set_puts =
      let n : Item FileRef = item_with next r in
      let items : List (Item FileRef) = items_of tree rows in
      let before : Item FileRef → Bool = λ item. is_lt (key_cmp item.key r.key) in
      let behind : Item FileRef → Bool = λ item. is_lt (key_cmp r.key item.key) in
      ap (λ (l : List Row). map (item_with next) l) (sym (put_there key r (by_key tree) (by_key_rising tree) (find-by_key key tree ∙ here)))
      ∙ puts_items next (r ∷ []) (by_key tree)
      ∙ ap (λ (m : List (Item FileRef)). m ++ n ∷ filter behind (map (item_with next) (by_key tree)))
      (filter-map (item_with next) (λ x. is_lt (key_cmp x.key r.key)) before (λ x. refl) (by_key tree) ∙ lows ∙ sym (filter-map (item_with rows) (λ x. is_lt (key_cmp x.key r.key)) before (λ x. refl) (by_key tree)))
      ∙ ap (λ (m : List (Item FileRef)). filter before items ++ n ∷ m)
      (filter-map (item_with next) (λ x. is_lt (key_cmp r.key x.key)) behind (λ x. refl) (by_key tree) ∙ highs ∙ sym (filter-map (item_with rows) (λ x. is_lt (key_cmp r.key x.key)) behind (λ x. refl) (by_key tree)))
      ∙ ap (λ (i : Item FileRef). put_item i items) new_item

  -- where all folders above are there
  none_missing : (keys : List Key) → All (IsFolder tree) keys → filter (λ folder. not (has_item (items_of tree rows) folder)) keys ≡ []
  none_missing [] all = refl
  none_missing (k ∷ keys) all =
      let there : has_item (items_of tree rows) k ≡ true = has_is tree rows k ∙ ap (λ (o : Option Row). is_some o) (All-head (IsFolder tree) k keys all).there in
      let rest : List Key = filter (λ folder. not (has_item (items_of tree rows) folder)) keys in
      ap (λ b. cond (not b) (k ∷ rest) rest) there ∙ none_missing keys (All-tail (IsFolder tree) k keys all)

  pub set_done : (moment : ℤ) (user : List ℕ) → All (IsFolder tree) (folders_above new.key)
      → items_of tree next ≡ put_items (map (new_folder moment user) (missing_folders (items_of tree rows) new.key) ++ item_of_row new ∷ []) (items_of tree rows)
  set_done moment user all =
      set_puts
      ∙ ap (λ (keys : List Key). put_items (map (new_folder moment user) keys ++ item_of_row new ∷ []) (items_of tree rows)) (sym (none_missing (folders_above new.key) all))

none_by : (f : Item FileRef → Item FileRef) (b : Bool) (x : Item FileRef) (rest : Bool) (l items : List (Item FileRef)) → (b || rest) ≡ false → (rest ≡ false → l ≡ items) → cond b (f x) x ∷ l ≡ x ∷ items
none_by f true x rest l items e more = cc
none_by f false x rest l items e more = ap (λ (m : List (Item FileRef)). x ∷ m) (more e)

-- an item that isn't there doesn't change
pub none_changes : (f : Item FileRef → Item FileRef) (key : Key) (items : List (Item FileRef)) → has_item items key ≡ false → map (λ item. cond (same_key item.key key) (f item) item) items ≡ items
none_changes f key [] e = refl
none_changes f key (x ∷ items) e =
    none_by f (same_key x.key key) x (has_item items key) (map (λ item. cond (same_key item.key key) (f item) item) items) items e (λ more. none_changes f key items more)

-- ---- edits of what is there

-- a row is taken, and another put in its place
pub set_after : (rows mid next : List (Option ItemRow)) (id : ℕ) (new : ItemRow) → ((i : ℕ) → i ≢ id → at mid i ≡ at rows i) → IsSet mid next id new → IsSet rows next id new
set_after rows mid next id new others set = record { each = λ i. set.each i ∙ by i (eqb i id) refl }
  where
    by : (i : ℕ) (b : Bool) → eqb i id ≡ b → cond b (Some new) (at mid i) ≡ cond b (Some new) (at rows i)
    by i true e = refl
    by i false e = others i (eqb-false i id e)

module _ (tree : List Row) (rows next : List (Option ItemRow)) (key : Key) (fits : Fits tree rows) (id : ℕ) (is : Some id ≡ option_map (λ r. r.id) (row_at tree key)) (new : ItemRow) (set : IsSet rows next id new) where
  module _ (r : Row) (here : row_at tree key ≡ Some r) (at_id : r.id ≡ id) (has : HasRow rows r) where
    set_here : IsSet rows next r.id new
    set_here = let P : ℕ → Type 0 = λ n. IsSet rows next n new in subst P (sym at_id) set

    module _ (moment : ℤ) (user : List ℕ) where
      counted_by : (row : ItemRow) → Some row ≡ at rows id → new ≡ counted_row moment user row → Fits tree next × (items_of tree next ≡ with_download (items_of tree rows) moment user key)
      counted_by row taken made =
          let there : at rows r.id ≡ Some row = ap (at rows) at_id ∙ sym taken in
          let both : Some has.row ≡ Some row = sym has.there ∙ there in
          let same : row ≡ has.row = cc in
          let key_is : new.key ≡ r.key = ap (λ (x : ItemRow). x.key) made ∙ ap (λ (x : ItemRow). x.key) same ∙ has.key in
          let kind_is : is_some new.file ≡ r.is_file = ap (λ (x : ItemRow). is_some x.file) made ∙ ap (λ (x : ItemRow). is_some x.file) same ∙ has.kind in
          let item : item_of_row new ≡ counted moment user (item_with rows r) = ap (λ (x : ItemRow). item_of_row x) made ∙ ap (counted moment user) (sym (item_is tree rows key r has row there)) in (
            set_fits tree rows next key r new fits here set_here key_is kind_is,
            set_changes tree rows next key r new fits here set_here key_is kind_is (counted moment user) item,
          )

      replaced_by : key ≡ new.key → is_some new.file ≡ true → has_folder (items_of tree rows) key ≡ false → All (IsFolder tree) (folders_above r.key)
          → Fits tree next × (items_of tree next ≡ put_items (map (new_folder moment user) (missing_folders (items_of tree rows) new.key) ++ item_of_row new ∷ []) (items_of tree rows))
      replaced_by named file no_folder above =
          let there : has_item (items_of tree rows) key ≡ true = has_is tree rows key ∙ ap (λ (o : Option Row). is_some o) here in
          let kind : has_file (items_of tree rows) key ≡ r.is_file = has_file_is tree rows key fits.each ∙ ap (λ (o : Option Row). option_map_or (λ x. x.is_file) o false) here in
          let not_folder : not r.is_file ≡ false = ap (λ b. b && not r.is_file) (sym there) ∙ ap (λ b. has_item (items_of tree rows) key && not b) (sym kind) ∙ no_folder in
          let kind_is : is_some new.file ≡ r.is_file = file ∙ sym (is_true r.is_file not_folder) in
          let r_key : r.key ≡ key = same_key-true r.key key (found_passes (λ x. same_key x.key key) tree r here) in
          let key_is : new.key ≡ r.key = sym (r_key ∙ named) in
          let P : Key → Type 0 = λ k. All (IsFolder tree) (folders_above k) in (
            set_fits tree rows next key r new fits here set_here key_is kind_is,
            set_done tree rows next key r new fits here set_here key_is kind_is moment user (subst P (sym key_is) above),
          )

  pub count_done : (moment : ℤ) (user : List ℕ) (row : ItemRow) → Some row ≡ at rows id → new ≡ counted_row moment user row → Fits tree next × (items_of tree next ≡ with_download (items_of tree rows) moment user key)
  count_done moment user row taken made =
      let found = looked_up tree rows key fits id is in
      counted_by found.0 found.1 found.2 found.4 moment user row taken made

  pub replace_done : (moment : ℤ) (user : List ℕ) → key ≡ new.key → is_some new.file ≡ true → has_folder (items_of tree rows) key ≡ false → ((r : Row) → IsLive tree r → All (IsFolder tree) (folders_above r.key))
      → Fits tree next × (items_of tree next ≡ put_items (map (new_folder moment user) (missing_folders (items_of tree rows) new.key) ++ item_of_row new ∷ []) (items_of tree rows))
  replace_done moment user named file no_folder stand =
      let found = looked_up tree rows key fits id is in
      let live : IsLive tree found.0 = found_live (λ x. same_key x.key key) 0 tree found.0 fits.rules.ascend found.1 in
      replaced_by found.0 found.1 found.2 found.4 moment user named file no_folder (stand found.0 live)
