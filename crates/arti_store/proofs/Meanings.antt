-- What is done to rows, in the words of the items that they stand for.
use Rattle.std.proofs.Common.{◌≡◌, ℕ, ◌+◌, Bool, true, false, cond, List, [], ◌∷◌, ◌++◌, length, Option, Some, None, refl, sym, ◌∙◌, ap, subst, arith}
use Rattle.std.specs.Prelude.{ℤ, All, Contains, map, filter, not, ◌&&◌, ◌||◌, ◌==◌, nat_le, is_some, is_none, option_map}
use Rattle.std.specs.List.{find, list_any}
use Rattle.std.specs.Ordering.{is_lt}
use Rattle.std.proofs.lemmas.Bool.{and_parts}
use Rattle.std.proofs.lemmas.List.{map-append, get_or-map, length-map}
use Rattle.std.proofs.lemmas.List.Elements.{All-nil, All-cons, All-head, All-tail, All-append, All-weaker, All-map, All-filter}
use Rattle.arti_rows.specs.Key.{Key, key_cmp, folders_above}
use Rattle.arti_rows.specs.declared.limits.Limits.{Limits}
use Rattle.arti_rows.specs.declared.rows.FileRef.{FileRef}
use Rattle.arti_rows.specs.declared.rows.Given.{Given}
use Rattle.arti_rows.specs.declared.rows.ItemRow.{ItemRow}
use Rattle.arti_rows.specs.declared.rows.Property.{Property}
use Rattle.arti_rows.specs.declared.edits.Edit.{Edit}
use Rattle.arti_rows.specs.declared.edits.Edit.TheVariants as edits
use Rattle.arti_rows.specs.declared.edits.Change.{Change}
use Rattle.arti_rows.specs.declared.refusal.Refusal.{Refusal}
use Rattle.arti_rows.specs.declared.refusal.Refusal.TheVariants.{Full}
use Rattle.arti_rows.specs.declared.refusal.Which.TheVariants.{Items}
use Rattle.arti_model.specs.Store.{Item, File, same_key, item_of_row, find_item, has_file, has_item, put_item, put_items, new_folder, missing_folders}
use Rattle.arti_model.specs.Apply.{is_local, refused_if, refused_below, file_above, added_with, passes_limit, put_refusal, deployed, with_folder, with_deployed, counted, with_download, edited, edited_by, refusal, Holding, apply, apply_all}
use Rattle.arti_model.specs.Mapped.{item_mapped, items_mapped}
use Rattle.arti_model.specs.Laws.{find-map, filter-map, option_map-map, find_mapped, edited_by_mapped, edits_refusal_mapped}
use Rattle.arti_store.specs.Items.{file_in, item_in, items_in, items_of, HasFile, HasFileIn, find_row, put_row, put_rows, folder_row, file_row, counted_row, rows_with_download}
use Rattle.arti_store.specs.Changes.{edit_references, references_of, references}
use Rattle.arti_store.specs.Replays.{itself, items_after, is_accepted, are_accepted}
use Rattle.arti_store.specs.Store.{Accepted}

-- ---- rows that are put

pub find_of : (rows : List ItemRow) (key : Key) → find_item (items_of rows) key ≡ option_map item_of_row (find_row rows key)
find_of rows key = find-map item_of_row (λ (row : ItemRow). same_key row.key key) (λ item. same_key item.key key) (λ row. refl) rows

pub find_in : (bytes : List ℕ) (rows : List ItemRow) (key : Key) → find_item (items_in bytes rows) key ≡ option_map (item_in bytes) (find_row rows key)
find_in bytes rows key =
    find_mapped (file_in bytes) (items_of rows) key ∙ ap (option_map (item_mapped (file_in bytes))) (find_of rows key) ∙ option_map-map item_of_row (item_mapped (file_in bytes)) (find_row rows key)

put_of : (new : ItemRow) (rows : List ItemRow) → items_of (put_row new rows) ≡ put_item (item_of_row new) (items_of rows)
put_of new rows =
    rw (
      filter-map item_of_row (λ (row : ItemRow). is_lt (key_cmp row.key new.key)) (λ item. is_lt (key_cmp item.key new.key)) (λ row. refl) rows,
      filter-map item_of_row (λ (row : ItemRow). is_lt (key_cmp new.key row.key)) (λ item. is_lt (key_cmp new.key item.key)) (λ row. refl) rows,
    )
    (map-append item_of_row (filter (λ (row : ItemRow). is_lt (key_cmp row.key new.key)) rows) (new ∷ filter (λ (row : ItemRow). is_lt (key_cmp new.key row.key)) rows))

pub puts_of : (news rows : List ItemRow) → items_of (put_rows news rows) ≡ put_items (items_of news) (items_of rows)
puts_of [] rows = refl
puts_of (new ∷ news) rows = puts_of news (put_row new rows) ∙ ap (put_items (items_of news)) (put_of new rows)

module _ (moment : ℤ) (user : List ℕ) where
  folders_of : (keys : List Key) → items_of (map (folder_row moment user) keys) ≡ map (new_folder moment user) keys
  folders_of [] = refl
  folders_of (key ∷ keys) = ap (λ (l : List (Item FileRef)). new_folder moment user key ∷ l) (folders_of keys)

  news_of : (keys : List Key) (last : ItemRow) → items_of (map (folder_row moment user) keys ++ last ∷ []) ≡ map (new_folder moment user) keys ++ item_of_row last ∷ []
  news_of keys last = map-append item_of_row (map (folder_row moment user) keys) (last ∷ []) ∙ ap (λ (l : List (Item FileRef)). l ++ item_of_row last ∷ []) (folders_of keys)

  pub folder_put : (items new : List (Item FileRef)) (key : Key) (news : List ItemRow) → has_item items key ≡ false
      → news ≡ map (folder_row moment user) (missing_folders items key) ++ folder_row moment user key ∷ [] → new ≡ put_items (items_of news) items → new ≡ with_folder items moment user key
  folder_put items new key news is made put =
      put ∙ ap (λ (l : List ItemRow). put_items (items_of l) items) made
      ∙ ap (λ (l : List (Item FileRef)). put_items l items) (news_of (missing_folders items key) (folder_row moment user key) ∙ sym (map-append (new_folder moment user) (missing_folders items key) (key ∷ [])))
      ∙ sym (ap (λ b. cond b items (put_items (map (new_folder moment user) (missing_folders items key ++ key ∷ [])) items)) is)

  pub file_put : (rows : List ItemRow) (new : List (Item FileRef)) (key : Key) (given : Given) (file : FileRef) (props : List Property) (news : List ItemRow)
      → news ≡ map (folder_row moment user) (missing_folders (items_of rows) key) ++ file_row moment user key given file props (find_row rows key) ∷ [] → new ≡ put_items (items_of news) (items_of rows)
      → new ≡ with_deployed (items_of rows) moment user key given file props
  file_put rows new key given file props news made put =
      let items = items_of rows in
      put ∙ ap (λ (l : List ItemRow). put_items (items_of l) items) made
      ∙ ap (λ (l : List (Item FileRef)). put_items l items)
      (news_of (missing_folders items key) (file_row moment user key given file props (find_row rows key))
      ∙ ap (λ (o : Option (Item FileRef)). map (new_folder moment user) (missing_folders items key) ++ deployed moment user key given file props o ∷ []) (sym (find_of rows key)))

  pub download_of : (rows : List ItemRow) (key : Key) → items_of (rows_with_download rows moment user key) ≡ with_download (items_of rows) moment user key
  download_of [] key = refl
  download_of (row ∷ rows) key = rw (download_of rows key)
      (elim (same_key row.key key) as (λ b. item_of_row (cond b (counted_row moment user row) row) ∷ with_download (items_of rows) moment user key
      ≡ cond b (counted moment user (item_of_row row)) (item_of_row row) ∷ with_download (items_of rows) moment user key) [ true ↦ refl | false ↦ refl ])

-- the edit is none of those that are built
abbrev IsOther : Edit → Type 0
IsOther edit =
    ((key : Key) → edit ≡ edits.Folder key → ⊥) × ((key : Key) (given : Given) (file : FileRef) (props : List Property) → edit ≡ edits.File key given file props → ⊥)
    × ((key : Key) → edit ≡ edits.Downloaded key → ⊥)

pub other_edited : (moment : ℤ) (user : List ℕ) (edit : Edit) (items : List (Item FileRef)) → IsOther edit → items ≡ edited itself moment user edit items
other_edited moment user (edits.Folder key) items other = absurd (other.0 key refl)
other_edited moment user (edits.File key given file props) items other = absurd (other.1 key given file props refl)
other_edited moment user (edits.Downloaded key) items other = absurd (other.2 key refl)
other_edited moment user (edits.Define def) items other = refl
other_edited moment user (edits.Remove key) items other = refl
other_edited moment user (edits.Move from to) items other = refl
other_edited moment user (edits.Copy from to) items other = refl
other_edited moment user (edits.SetProps key deep props) items other = refl
other_edited moment user (edits.DropProps key deep keys) items other = refl
other_edited moment user (edits.Build info) items other = refl
other_edited moment user (edits.Unbuild name number) items other = refl
other_edited moment user (edits.Promote name number row) items other = refl
other_edited moment user (edits.Kept file) items other = refl
other_edited moment user (edits.Item row) items other = refl
other_edited moment user (edits.Held row) items other = refl

-- ---- which edits are refused

none_if : (b : Bool) (r : Refusal) (next : Option Refusal) → is_none (refused_if b r next) ≡ (not b && is_none next)
none_if true r next = refl
none_if false r next = refl

none_below : (o : Option Key) (next : Option Refusal) → is_none (refused_below o next) ≡ (is_none o && is_none next)
none_below None next = refl
none_below (Some key) next = refl

none_found : {X : Type 0} (p : X → Bool) (xs : List X) → is_none (find p xs) ≡ not (list_any p xs)
none_found p [] = refl
none_found p (x ∷ xs) = by (p x) (none_found p xs)
  where
    by : (b : Bool) → is_none (find p xs) ≡ not (list_any p xs) → is_none (cond b (Some x) (find p xs)) ≡ not (b || list_any p xs)
    by true rest = refl
    by false rest = rest

all_of : (local above taken passes : Bool) → (not (not local) && (not above && (not taken && (not passes && true)))) ≡ (local && not above && not taken && not passes)
all_of false above taken passes = refl
all_of true true taken passes = refl
all_of true false true passes = refl
all_of true false false true = refl
all_of true false false false = refl

not_either : (a b : Bool) → not (a || b) ≡ (not a && not b)
not_either true b = refl
not_either false b = refl

module _ (limits : Limits) (rows : List ItemRow) where
  abbrev its : List (Item FileRef)
  its = items_of rows

  pub no_room : (added : ℕ) → not ((added == 0) || nat_le (length rows + added) limits.items) ≡ passes_limit limits its added
  no_room added =
      not_either (added == 0) (nat_le (length rows + added) limits.items)
      ∙ ap (λ n. not (added == 0) && not (nat_le (n + added) limits.items)) (sym (length-map rows item_of_row))

  pub put_judged : (key : Key) (taken : Bool) (here : Refusal) → is_none (put_refusal limits its key taken here)
      ≡ (is_local key && not (list_any (has_file its) (folders_above key)) && not taken && not (passes_limit limits its (added_with its key)))
  put_judged key taken here =
      let passes = passes_limit limits its (added_with its key) in
      let third = refused_if taken here (refused_if passes (Full Items) None) in
      none_if (not (is_local key)) _ (refused_below (file_above its key) third)
      ∙ ap (λ b. not (not (is_local key)) && b)
      (none_below (file_above its key) third
      ∙ ap (λ b. b && is_none third) (none_found (has_file its) (folders_above key))
      ∙ ap (λ b. not (list_any (has_file its) (folders_above key)) && b) (none_if taken here (refused_if passes (Full Items) None) ∙ ap (λ b. not taken && b) (none_if passes (Full Items) None)))
      ∙ all_of (is_local key) (list_any (has_file its) (folders_above key)) taken passes

-- one is found where one passes
pub found_if : {X : Type 0} (p : X → Bool) (xs : List X) → list_any p xs ≡ is_some (find p xs)
found_if p [] = refl
found_if p (x ∷ xs) = by (p x) (found_if p xs)
  where
    by : (b : Bool) → list_any p xs ≡ is_some (find p xs) → (b || list_any p xs) ≡ is_some (cond b (Some x) (find p xs))
    by true rest = refl
    by false rest = rest

-- ---- the contents of rows are kept

pub split : {X : Type 0} (P : X → Type 0) (xs ys : List X) → All P (xs ++ ys) → All P xs × All P ys
split P [] ys all = (All-nil P, all)
split P (x ∷ xs) ys all =
    let rest = split P xs ys (All-tail P x (xs ++ ys) all) in
    (All-cons P x xs (All-head P x (xs ++ ys) all) rest.0, rest.1)

module _ (kept : List FileRef) where
  abbrev Has : Item FileRef → Type 0
  Has item = HasFile kept item

  pub has_items : (rows : List ItemRow) → All (HasFileIn kept) rows → All Has (items_of rows)
  has_items rows all = All-map Has item_of_row rows all

  pub has_rows : (rows : List ItemRow) → All Has (items_of rows) → All (HasFileIn kept) rows
  has_rows rows all = λ k d lt. subst Has (get_or-map item_of_row rows k d (item_of_row d) lt) (all k (item_of_row d) (omega (arith, lt, length-map rows item_of_row)))

  has_put : (new : Item FileRef) (items : List (Item FileRef)) → Has new → All Has items → All Has (put_item new items)
  has_put new items has all =
      let less : Item FileRef → Bool = λ item. is_lt (key_cmp item.key new.key) in
      let more : Item FileRef → Bool = λ item. is_lt (key_cmp new.key item.key) in
      All-append Has (filter less items) (new ∷ filter more items) (All-filter less Has items all) (All-cons Has new (filter more items) has (All-filter more Has items all))

  has_puts : (news items : List (Item FileRef)) → All Has news → All Has items → All Has (put_items news items)
  has_puts [] items new all = all
  has_puts (x ∷ news) items new all = has_puts news (put_item x items) (All-tail Has x news new) (has_put x items (All-head Has x news new) all)

  module _ (moment : ℤ) (user : List ℕ) where
    has_folders : (keys : List Key) → All Has (map (new_folder moment user) keys)
    has_folders keys = All-map Has (new_folder moment user) keys (λ k d lt. tt)

    has_either : (b : Bool) (items others : List (Item FileRef)) → All Has items → All Has others → All Has (cond b items others)
    has_either true items others all new = all
    has_either false items others all new = new

    has_counted : (b : Bool) (item : Item FileRef) → Has item → Has (cond b (counted moment user item) item)
    has_counted true item has = has
    has_counted false item has = has

    -- the contents of items are kept, where those that an edit names are
    pub has_edit : (edit : Edit) (items : List (Item FileRef)) → All Has items → All (Contains kept) (edit_references edit) → All Has (edited itself moment user edit items)
    has_edit (edits.Folder key) items all named =
        let news = map (new_folder moment user) (missing_folders items key ++ key ∷ []) in
        has_either (has_item items key) items (put_items news items) all (has_puts news items (has_folders (missing_folders items key ++ key ∷ [])) all)
    has_edit (edits.File key given file props) items all named =
        let new = deployed moment user key given file props (find_item items key) in
        let news = map (new_folder moment user) (missing_folders items key) in
        has_puts (news ++ new ∷ []) items (All-append Has news (new ∷ []) (has_folders (missing_folders items key)) (All-cons Has new [] (All-head (Contains kept) file [] named) (All-nil Has))) all
    has_edit (edits.Downloaded key) items all named = All-map Has (λ item. cond (same_key item.key key) (counted moment user item) item) items
        (All-weaker Has (λ item. Has (cond (same_key item.key key) (counted moment user item) item)) (λ item has. has_counted (same_key item.key key) item has) items all)
    has_edit (edits.Define def) items all named = all
    has_edit (edits.Remove key) items all named = all
    has_edit (edits.Move from to) items all named = all
    has_edit (edits.Copy from to) items all named = all
    has_edit (edits.SetProps key deep props) items all named = all
    has_edit (edits.DropProps key deep keys) items all named = all
    has_edit (edits.Build info) items all named = all
    has_edit (edits.Unbuild name number) items all named = all
    has_edit (edits.Promote name number row) items all named = all
    has_edit (edits.Kept file) items all named = all
    has_edit (edits.Item row) items all named = all
    has_edit (edits.Held row) items all named = all

    pub has_edited : (edit : Edit) (rows new : List ItemRow) → items_of new ≡ edited itself moment user edit (items_of rows) → All (HasFileIn kept) rows → All (Contains kept) (edit_references edit) → All (HasFileIn kept) new
    has_edited edit rows new is all named =
        has_rows new (subst (λ (l : List (Item FileRef)). All Has l) (sym is) (has_edit edit (items_of rows) (has_items rows all) named))

    pub has_edits : (es : List Edit) (items : List (Item FileRef)) → All Has items → All (Contains kept) (references_of es) → All Has (edited_by itself moment user es items)
    has_edits [] items all named = all
    has_edits (edit ∷ es) items all named =
        let both = split (Contains kept) (edit_references edit) (references_of es) named in
        has_edits es (edited itself moment user edit items) (has_edit edit items all both.0) both.1

  pub has_after : (changes : List Change) (items : List (Item FileRef)) → All Has items → All (Contains kept) (references changes) → All Has (items_after itself changes items)
  has_after [] items all named = all
  has_after (change ∷ changes) items all named =
      let both = split (Contains kept) (references_of change.edits) (references changes) named in
      has_after changes (edited_by itself change.moment change.user change.edits items) (has_edits change.moment change.user change.edits items all both.0) both.1

-- ---- changes, and whether they are accepted

module _ {F G : Type 0} (f : F → G) (file_of : FileRef → F) where
  pub items_after_mapped : (changes : List Change) (items : List (Item F)) → items_mapped f (items_after file_of changes items) ≡ items_after (λ ref. f (file_of ref)) changes (items_mapped f items)
  items_after_mapped [] items = refl
  items_after_mapped (change ∷ changes) items =
      items_after_mapped changes (edited_by file_of change.moment change.user change.edits items)
      ∙ ap (items_after (λ ref. f (file_of ref)) changes) (edited_by_mapped f change.moment change.user file_of change.edits items)

  pub are_accepted_mapped : (limits : Limits) (changes : List Change) (items : List (Item F)) → are_accepted limits (λ ref. f (file_of ref)) changes (items_mapped f items) ≡ are_accepted limits file_of changes items
  are_accepted_mapped limits [] items = refl
  are_accepted_mapped limits (change ∷ changes) items =
      ap (λ o. is_none o && are_accepted limits (λ ref. f (file_of ref)) changes (edited_by (λ ref. f (file_of ref)) change.moment change.user change.edits (items_mapped f items)))
      (edits_refusal_mapped f limits file_of change.moment change.user change.edits items)
      ∙ ap (λ (l : List (Item G)). is_accepted limits file_of change items && are_accepted limits (λ ref. f (file_of ref)) changes l) (sym (edited_by_mapped f change.moment change.user file_of change.edits items))
      ∙ ap (λ b. is_accepted limits file_of change items && b) (are_accepted_mapped limits changes (edited_by file_of change.moment change.user change.edits items))

pub none_is : (o : Option Refusal) → is_none o ≡ true → o ≡ None
none_is None e = refl
none_is (Some r) e = cc

-- the changes of a store are accepted as its items tell
module _ (limits : Limits) (file_of : FileRef → File) where
  pub accepted_if : (changes : List Change) (h : Holding) → are_accepted limits file_of changes h.repository.items ≡ true → Accepted limits file_of changes h
  unfolding refusal apply
  accepted_if [] h done = tt
  accepted_if (change ∷ changes) h done =
      let both = and_parts (is_accepted limits file_of change h.repository.items) _ done in
      (none_is (refusal limits file_of change h) both.0, accepted_if changes (apply file_of change h) both.1)

  pub accepted_then : (changes : List Change) (h : Holding) → Accepted limits file_of changes h → are_accepted limits file_of changes h.repository.items ≡ true
  unfolding refusal apply
  accepted_then [] h accepted = refl
  accepted_then (change ∷ changes) h accepted =
      ap (λ o. is_none o && are_accepted limits file_of changes (edited_by file_of change.moment change.user change.edits h.repository.items)) accepted.0
      ∙ accepted_then changes (apply file_of change h) accepted.1

module _ (file_of : FileRef → File) where
  pub items_made : (changes : List Change) (h : Holding) → (apply_all file_of changes h).repository.items ≡ items_after file_of changes h.repository.items
  unfolding apply
  items_made [] h = refl
  items_made (change ∷ changes) h = items_made changes (apply file_of change h)
