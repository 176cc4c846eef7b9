-- Rows that come under new keys.
use Rattle.std.proofs.Common.{◌≡◌, ◌≢◌, zero, suc, ℕ, ◌+◌, ◌<◌, Bool, true, false, cond, eqb, List, [], ◌∷◌, ◌++◌, length, get_or, drop, Option, Some, None, refl, sym, ap, subst, ◌∙◌, arith}
use Rattle.std.specs.Prelude.{All, ℤ, ◌&&◌, not, map, filter, is_some, unwrap_or, nat_lt}
use Rattle.std.specs.List.{find}
use Rattle.std.specs.Option.{is_none}
use Rattle.std.specs.Ordering.{is_lt}
use Rattle.std.proofs.lemmas.Bool.{eq-eqb, ne_eqb}
use Rattle.std.proofs.lemmas.List.{drop_more, map-append}
use Rattle.std.proofs.lemmas.List.Elements.{All-nil, All-cons, All-head, All-tail, All-weaker, filter_agree}
use Rattle.arti_rows.specs.Key.{Key, key_cmp, folders_above}
use Rattle.arti_rows.specs.declared.rows.FileRef.{FileRef}
use Rattle.arti_rows.specs.declared.rows.ItemRow.{ItemRow}
use Rattle.arti_tree.specs.Ids.{Lacks}
use Rattle.arti_tree.specs.Rows.{Row, row_at, with_row, IsTree}
use Rattle.arti_tree.specs.Adds.{Adds, AreFree, rows_of, with_rows, keys_added, is_end, is_missing}
use Rattle.arti_tree.specs.ByKey.{put_row, put_rows, by_key, KeysOnce}
use Rattle.arti_tree.specs.ByKeyLaws.{by_key-with_rows}
use Rattle.arti_model.specs.Store.{Item, has_item, put_item, put_items, new_folder, missing_folders, item_of_row}
use Rattle.arti_model.specs.Laws.{filter-map}
use Rattle.arti_catalog.specs.Held.{Fits, HasRow, IsSet, IsPut, put_at, at, item_with, items_of, folder_row, no_row}
use Rattle.arti_catalog.specs.LiveLaws.{All-by_key}
use Rattle.arti_catalog.proofs.Found.{has_is}

-- ---- rows at ids

pub put_at-same : (ids : List ℕ) (news : List ItemRow) (f g : ℕ → Option ItemRow) → ((i : ℕ) → f i ≡ g i) → (i : ℕ) → put_at ids news f i ≡ put_at ids news g i
put_at-same [] news f g same i = same i
put_at-same (id ∷ ids) [] f g same i = same i
put_at-same (id ∷ ids) (new ∷ news) f g same i =
    put_at-same ids news (λ i. cond (eqb i id) (Some new) (f i)) (λ i. cond (eqb i id) (Some new) (g i)) (λ j. ap (λ (o : Option ItemRow). cond (eqb j id) (Some new) o) (same j)) i

pub put_step : (ids : List ℕ) (n : ℕ) (new : ItemRow) (rest : List ItemRow) (rows next : List (Option ItemRow)) → n < length ids → IsSet rows next (get_or ids n 0) new
    → (i : ℕ) → put_at (drop (n + 1) ids) rest (at next) i ≡ put_at (drop n ids) (new ∷ rest) (at rows) i
put_step ids n new rest rows next lt set i =
    put_at-same (drop (n + 1) ids) rest (at next) (λ i. cond (eqb i (get_or ids n 0)) (Some new) (at rows i)) set.each i
    ∙ sym (ap (λ (l : List ℕ). put_at l (new ∷ rest) (at rows) i) (drop_more ids n 0 lt))

-- ---- lists

none_by : {X : Type 0} (b : Bool) (x : X) (rest : Option X) → cond b (Some x) rest ≡ None → (b ≡ false) × (rest ≡ None)
none_by true x rest e = cc
none_by false x rest e = (refl, e)

not_found : {X : Type 0} (p : X → Bool) (xs : List X) → find p xs ≡ None → All (λ x. p x ≡ false) xs
not_found p [] e = All-nil (λ x. p x ≡ false)
not_found p (x ∷ xs) e = let both = none_by (p x) x (find p xs) e in All-cons (λ x. p x ≡ false) x xs both.0 (not_found p xs both.1)

with_by : (P : Row → Type 0) (b : Bool) (r x : Row) (rows rest : List Row) → P r → All P (x ∷ rows) → All P rest → All P (cond b (r ∷ x ∷ rows) (x ∷ rest))
with_by P true r x rows rest here all more = All-cons P r (x ∷ rows) here all
with_by P false r x rows rest here all more = All-cons P x rest (All-head P x rows all) more

All-with_row : (P : Row → Type 0) (r : Row) (rows : List Row) → P r → All P rows → All P (with_row r rows)
All-with_row P r [] here all = All-cons P r [] here all
All-with_row P r (x ∷ rows) here all = with_by P (nat_lt r.id x.id) r x rows (with_row r rows) here all (All-with_row P r rows here (All-tail P x rows all))

pub All-with_rows : (P : Row → Type 0) (more rows : List Row) → All P more → All P rows → All P (with_rows more rows)
All-with_rows P [] rows these all = all
All-with_rows P (r ∷ more) rows these all = All-with_rows P more (with_row r rows) (All-tail P r more these) (All-with_row P r rows (All-head P r more these) all)

-- ---- the rows of new keys

-- a row for each key: with that key, and a file's where the last is one
abbrev AreFor : Bool → List Key → List ItemRow → Type 0
AreFor is_file [] [] = Unit {0}
AreFor is_file [] (new ∷ news) = ⊥
AreFor is_file (k ∷ keys) [] = ⊥
AreFor is_file (k ∷ keys) (new ∷ news) = (new.key ≡ k) × (is_some new.file ≡ (is_file && is_end keys)) × AreFor is_file keys news

folders_for : (moment : ℤ) (user : List ℕ) (keys : List Key) (new : ItemRow) → AreFor (is_some new.file) (keys ++ new.key ∷ []) (map (folder_row moment user) keys ++ new ∷ [])
folders_for moment user [] new = (refl, alone (is_some new.file), tt)
  where
    alone : (b : Bool) → b ≡ (b && true)
    alone true = refl
    alone false = refl
folders_for moment user (k ∷ keys) new = (refl, no_file (is_some new.file) keys, folders_for moment user keys new)
  where
    no_end : (b : Bool) → false ≡ (b && false)
    no_end true = refl
    no_end false = refl

    no_file : (b : Bool) (keys : List Key) → false ≡ (b && is_end (keys ++ new.key ∷ []))
    no_file b [] = no_end b
    no_file b (k ∷ keys) = no_end b

count_for : (is_file : Bool) (keys : List Key) (news : List ItemRow) → AreFor is_file keys news → length keys ≡ length news
count_for is_file [] [] for = refl
count_for is_file [] (new ∷ news) for = absurd for
count_for is_file (k ∷ keys) [] for = absurd for
count_for is_file (k ∷ keys) (new ∷ news) for = ap suc (count_for is_file keys news for.2)

lacks_tail : (id i : ℕ) (ids : List ℕ) → Lacks (id ∷ ids) i → (id ≢ i) × Lacks ids i
lacks_tail id i ids lacks = (lacks zero (omega arith), λ k lt. lacks (suc k) (omega arith))

-- what stands at an id to which no row comes stays
untouched : (ids : List ℕ) (news : List ItemRow) (f : ℕ → Option ItemRow) (i : ℕ) → Lacks ids i → put_at ids news f i ≡ f i
untouched [] news f i lacks = refl
untouched (id ∷ ids) [] f i lacks = refl
untouched (id ∷ ids) (new ∷ news) f i lacks =
    let both = lacks_tail id i ids lacks in
    untouched ids news (λ i. cond (eqb i id) (Some new) (f i)) i both.1 ∙ ap (λ b. cond b (Some new) (f i)) (ne_eqb i id (λ e. both.0 (sym e)))

-- the rows of the old keys stay
old_stay : (tree : List Row) (ids : List ℕ) (news : List ItemRow) (f : ℕ → Option ItemRow) → AreFree tree ids → All (λ r. put_at ids news f r.id ≡ f r.id) tree
old_stay tree [] news f free = All-weaker (λ r. Unit {0}) (λ r. f r.id ≡ f r.id) (λ r _. refl) tree (λ k d lt. tt)
old_stay tree (id ∷ ids) [] f free = All-weaker (λ r. Unit {0}) (λ r. f r.id ≡ f r.id) (λ r _. refl) tree (λ k d lt. tt)
old_stay tree (id ∷ ids) (new ∷ news) f free =
    let g : ℕ → Option ItemRow = λ i. cond (eqb i id) (Some new) (f i) in
    joined (λ r. put_at ids news g r.id ≡ g r.id) (λ r. eqb r.id id ≡ false) (λ r. put_at ids news g r.id ≡ f r.id) (λ r same other. same ∙ ap (λ b. cond b (Some new) (f r.id)) other) tree
    (old_stay tree ids news g free.2) (not_found (λ r. eqb r.id id) tree free.0)
  where
    joined : (P Q R : Row → Type 0) → ((r : Row) → P r → Q r → R r) → (rows : List Row) → All P rows → All Q rows → All R rows
    joined P Q R f [] p q = All-nil R
    joined P Q R f (x ∷ rows) p q = All-cons R x rows (f x (All-head P x rows p) (All-head Q x rows q)) (joined P Q R f rows (All-tail P x rows p) (All-tail Q x rows q))

-- each new key has its row, and these are the new items
module _ (rows : List (Option ItemRow)) where
  come : (tree : List Row) (is_file : Bool) (ids : List ℕ) (keys : List Key) (news : List ItemRow) (f : ℕ → Option ItemRow)
      → length ids ≡ length keys → AreFor is_file keys news → AreFree tree ids → ((i : ℕ) → at rows i ≡ put_at ids news f i)
      → All (HasRow rows) (rows_of ids keys is_file) × (map (item_with rows) (rows_of ids keys is_file) ≡ map item_of_row news)
  come tree is_file [] [] [] f each for free is = (All-nil (HasRow rows), refl)
  come tree is_file [] [] (new ∷ news) f each for free is = absurd for
  come tree is_file [] (k ∷ keys) news f each for free is = absurd (omega (arith, each))
  come tree is_file (id ∷ ids) [] news f each for free is = absurd (omega (arith, each))
  come tree is_file (id ∷ ids) (k ∷ keys) [] f each for free is = absurd for
  come tree is_file (id ∷ ids) (k ∷ keys) (new ∷ news) f each for free is =
      let g : ℕ → Option ItemRow = λ i. cond (eqb i id) (Some new) (f i) in
      let there : at rows id ≡ Some new = is id ∙ untouched ids news g id free.1 ∙ ap (λ b. cond b (Some new) (f id)) (eq-eqb id id refl) in
      let r : Row = record { id = id; key = k; is_file = is_file && is_end keys } in
      let more = come tree is_file ids keys news g (omega (arith, each)) for.2 free.2 is in
      let item : item_with rows r ≡ item_of_row new = ap (λ (o : Option ItemRow). record (item_of_row (unwrap_or o no_row)) { key = k }) there ∙ ap (λ (key : Key). record (item_of_row new) { key = key }) (sym for.0) in
      (All-cons (HasRow rows) r (rows_of ids keys is_file) (record { row = new; there = there; key = for.0; kind = for.1 }) more.0, joins item more.1)
    where
      joins : {a b : Item FileRef} {xs ys : List (Item FileRef)} → a ≡ b → xs ≡ ys → a ∷ xs ≡ b ∷ ys
      joins {a = a} {b = b} {xs = xs} {ys = ys} e f = ap (λ (x : Item FileRef). x ∷ xs) e ∙ ap (λ (l : List (Item FileRef)). b ∷ l) f

  pub puts_items : (more l : List Row) → map (item_with rows) (put_rows more l) ≡ put_items (map (item_with rows) more) (map (item_with rows) l)
  puts_items [] l = refl
  puts_items (r ∷ more) l = puts_items more (put_row r l) ∙ ap (put_items (map (item_with rows) more)) one
    where
      one : map (item_with rows) (put_row r l) ≡ put_item (item_with rows r) (map (item_with rows) l)
      one =
          rw (
            filter-map (item_with rows) (λ x. is_lt (key_cmp x.key r.key)) (λ item. is_lt (key_cmp item.key r.key)) (λ x. refl) l,
            filter-map (item_with rows) (λ x. is_lt (key_cmp r.key x.key)) (λ item. is_lt (key_cmp r.key item.key)) (λ x. refl) l,
          )
          (map-append (item_with rows) (filter (λ x. is_lt (key_cmp x.key r.key)) l) (r ∷ filter (λ x. is_lt (key_cmp r.key x.key)) l))

-- the same items where the same rows stand
pub same_items : (l : List Row) (rows next : List (Option ItemRow)) → All (λ r. at next r.id ≡ at rows r.id) l → map (item_with next) l ≡ map (item_with rows) l
same_items [] rows next same = refl
same_items (r ∷ l) rows next same =
    let Q : Row → Type 0 = λ r. at next r.id ≡ at rows r.id in
    let one : item_with next r ≡ item_with rows r = ap (λ (o : Option ItemRow). record (item_of_row (unwrap_or o no_row)) { key = r.key }) (All-head Q r l same) in
    ap (λ (x : Item FileRef). x ∷ map (item_with next) l) one ∙ ap (λ (m : List (Item FileRef)). item_with rows r ∷ m) (same_items l rows next (All-tail Q r l same))

-- a row stays with its key where what stands at its id does
pub still_has : (l : List Row) (rows next : List (Option ItemRow)) → All (λ r. at next r.id ≡ at rows r.id) l → All (HasRow rows) l → All (HasRow next) l
still_has [] rows next same has = All-nil (HasRow next)
still_has (r ∷ l) rows next same has =
    let Q : Row → Type 0 = λ r. at next r.id ≡ at rows r.id in
    let old = All-head (HasRow rows) r l has in
    All-cons (HasRow next) r l (record { row = old.row; there = All-head Q r l same ∙ old.there; key = old.key; kind = old.kind }) (still_has l rows next (All-tail Q r l same) (All-tail (HasRow rows) r l has))

module _ (moment : ℤ) (user : List ℕ) (tree new_tree : List Row) (rows next : List (Option ItemRow)) (fits : Fits tree rows) (new : ItemRow) (ids : List ℕ) (news : List ItemRow)
    (made : news ≡ map (folder_row moment user) (missing_folders (items_of tree rows) new.key) ++ new ∷ []) (adds : Adds tree (keys_added tree new.key) (is_some new.file) ids new_tree) where
  missing : missing_folders (items_of tree rows) new.key ≡ filter (is_missing tree) (folders_above new.key)
  missing = filter_agree (λ folder. not (has_item (items_of tree rows) folder)) (is_missing tree) (λ folder. ap not (has_is tree rows folder) ∙ no_row_at (row_at tree folder)) (folders_above new.key)
    where
      no_row_at : (o : Option Row) → not (is_some o) ≡ is_none o
      no_row_at None = refl
      no_row_at (Some r) = refl

  for_keys : AreFor (is_some new.file) (keys_added tree new.key) news
  for_keys =
      let P : List ItemRow → Type 0 = λ l. AreFor (is_some new.file) (keys_added tree new.key) l in
      let Q : List Key → Type 0 = λ keys. AreFor (is_some new.file) (keys ++ new.key ∷ []) (map (folder_row moment user) (missing_folders (items_of tree rows) new.key) ++ new ∷ []) in
      subst P (sym made) (subst Q missing (folders_for moment user (missing_folders (items_of tree rows) new.key) new))

  pub added_many : length ids ≡ length news
  added_many = adds.each ∙ count_for (is_some new.file) (keys_added tree new.key) news for_keys

  module _ (put : IsPut ids news rows next) where
    both : All (HasRow next) (rows_of ids (keys_added tree new.key) (is_some new.file)) × (map (item_with next) (rows_of ids (keys_added tree new.key) (is_some new.file)) ≡ map item_of_row news)
    both = come next tree (is_some new.file) ids (keys_added tree new.key) news (at rows) adds.each for_keys adds.free put.each

    stay : All (λ r. at next r.id ≡ at rows r.id) tree
    stay = All-weaker (λ r. put_at ids news (at rows) r.id ≡ at rows r.id) (λ r. at next r.id ≡ at rows r.id) (λ r e. put.each r.id ∙ e) tree (old_stay tree ids news (at rows) adds.free)

    pub added_fits : IsTree new_tree → KeysOnce new_tree → Fits new_tree next
    added_fits rules once =
        let P : List Row → Type 0 = λ t. All (HasRow next) t in
        record {
          rules = rules;
          once = once;
          each = subst P (sym adds.added) (All-with_rows (HasRow next) (rows_of ids (keys_added tree new.key) (is_some new.file)) tree both.0 (still_has tree rows next stay fits.each));
        }

    added_items : map item_of_row news ≡ map (new_folder moment user) (missing_folders (items_of tree rows) new.key) ++ item_of_row new ∷ []
    added_items =
        ap (λ (l : List ItemRow). map item_of_row l) made ∙ map-append item_of_row (map (folder_row moment user) (missing_folders (items_of tree rows) new.key)) (new ∷ [])
        ∙ ap (λ (l : List (Item FileRef)). l ++ item_of_row new ∷ []) (folders (missing_folders (items_of tree rows) new.key))
      where
        folders : (keys : List Key) → map item_of_row (map (folder_row moment user) keys) ≡ map (new_folder moment user) keys
        folders [] = refl
        folders (key ∷ keys) = ap (λ (l : List (Item FileRef)). new_folder moment user key ∷ l) (folders keys)

    pub added_done : KeysOnce new_tree → items_of new_tree next ≡ put_items (map (new_folder moment user) (missing_folders (items_of tree rows) new.key) ++ item_of_row new ∷ []) (items_of tree rows)
    added_done once =
        let more = rows_of ids (keys_added tree new.key) (is_some new.file) in
        let P : List Row → Type 0 = λ t. KeysOnce t in
        ap (λ (t : List Row). map (item_with next) (by_key t)) adds.added
        ∙ ap (λ (l : List Row). map (item_with next) l) (by_key-with_rows more tree (subst P adds.added once))
        ∙ puts_items next more (by_key tree)
        ∙ ap (λ (l : List (Item FileRef)). put_items l (map (item_with next) (by_key tree))) (both.1 ∙ added_items)
        ∙ ap (put_items (map (new_folder moment user) (missing_folders (items_of tree rows) new.key) ++ item_of_row new ∷ []))
        (same_items (by_key tree) rows next (All-by_key (λ r. at next r.id ≡ at rows r.id) tree stay))
