-- Laws of items whose contents are seen as something else: they are looked up, edited and judged alike.
use Rattle.std.specs.Prelude.{◌≡◌, ℕ, ℤ, Bool, true, false, not, ◌&&◌, cond, List, [], ◌∷◌, ◌++◌, map, filter, Option, Some, None, is_some, option_map, option_and_then, refl}
use Rattle.std.specs.List.{find, list_any}
use Rattle.std.specs.Ordering.{is_lt}
use Rattle.std.proofs.Common.{sym, ap, ◌∙◌}
use Rattle.std.proofs.lemmas.List.{map-append, length-map}
use Rattle.std.proofs.lemmas.List.Elements.{filter_agree}
use Rattle.arti_rows.specs.Key.{Key, key_cmp, folders_above}
use Rattle.arti_rows.specs.declared.limits.Limits.{Limits}
use Rattle.arti_rows.specs.declared.rows.Digests.{Digests}
use Rattle.arti_rows.specs.declared.rows.FileRef.{FileRef}
use Rattle.arti_rows.specs.declared.rows.Given.{Given}
use Rattle.arti_rows.specs.declared.rows.Property.{Property}
use Rattle.arti_rows.specs.declared.rows.SomeDigests.{SomeDigests}
use Rattle.arti_rows.specs.declared.edits.Edit.{Edit}
use Rattle.arti_rows.specs.declared.edits.Edit.TheVariants as edits
use Rattle.arti_rows.specs.declared.refusal.Refusal.{Refusal}
use Rattle.arti_model.specs.Store.{Item, same_key, is_file, find_item, has_file, has_item, put_item, put_items, new_folder, missing_folders}
use Rattle.arti_model.specs.Mapped.{item_mapped, items_mapped}
use Rattle.arti_model.specs.Apply.{with_folder, deployed, with_deployed, counted, with_download, edited, edited_by, file_above, has_folder, added_with, put_refusal, edit_refusal, edits_refusal}
use Rattle.arti_model.specs.Deploys.{is_wanted, file_with}
use Rattle.arti_model.specs.Query.{facts_of}

-- ---- lists: a test that reads the same of an element and of what it is mapped to

module _ {A B : Type 0} (f : A → B) (p : A → Bool) (q : B → Bool) (same : (x : A) → q (f x) ≡ p x) where
  pub find-map : (xs : List A) → find q (map f xs) ≡ option_map f (find p xs)
  find-map [] = refl
  find-map (x ∷ xs) = rw (same x, find-map xs) (elim (p x) as (λ b. cond b (Some (f x)) (option_map f (find p xs)) ≡ option_map f (cond b (Some x) (find p xs))) [ true ↦ refl | false ↦ refl ])

  pub list_any-map : (xs : List A) → list_any q (map f xs) ≡ list_any p xs
  list_any-map [] = refl
  list_any-map (x ∷ xs) = rw (same x, list_any-map xs) refl

  pub filter-map : (xs : List A) → filter q (map f xs) ≡ map f (filter p xs)
  filter-map [] = refl
  filter-map (x ∷ xs) = rw (same x, filter-map xs) (elim (p x) as (λ b. cond b (f x ∷ map f (filter p xs)) (map f (filter p xs)) ≡ map f (cond b (x ∷ filter p xs) (filter p xs))) [ true ↦ refl | false ↦ refl ])

pub find_agree : {A : Type 0} (p q : A → Bool) (same : (x : A) → q x ≡ p x) (xs : List A) → find q xs ≡ find p xs
find_agree p q same [] = refl
find_agree p q same (x ∷ xs) = rw (same x, find_agree p q same xs) refl

pub is_some-map : {A B : Type 0} (f : A → B) (o : Option A) → is_some (option_map f o) ≡ is_some o
is_some-map f None = refl
is_some-map f (Some x) = refl

pub option_map-map : {A B C : Type 0} (f : A → B) (g : B → C) (o : Option A) → option_map g (option_map f o) ≡ option_map (λ x. g (f x)) o
option_map-map f g None = refl
option_map-map f g (Some x) = refl

pub items_mapped-mapped : {F G H : Type 0} (f : F → G) (g : G → H) (items : List (Item F)) → items_mapped g (items_mapped f items) ≡ items_mapped (λ x. g (f x)) items
items_mapped-mapped f g [] = refl
items_mapped-mapped f g (x ∷ items) = rw (items_mapped-mapped f g items, option_map-map f g x.file) refl

module _ {F G : Type 0} (f : F → G) where
  -- ---- look-ups

  pub find_mapped : (items : List (Item F)) (key : Key) → find_item (items_mapped f items) key ≡ option_map (item_mapped f) (find_item items key)
  find_mapped items key = find-map (item_mapped f) (λ item. same_key item.key key) (λ item. same_key item.key key) (λ x. refl) items

  pub has_item_mapped : (items : List (Item F)) (key : Key) → has_item (items_mapped f items) key ≡ has_item items key
  has_item_mapped items key = list_any-map (item_mapped f) (λ item. same_key item.key key) (λ item. same_key item.key key) (λ x. refl) items

  pub has_file_mapped : (items : List (Item F)) (key : Key) → has_file (items_mapped f items) key ≡ has_file items key
  has_file_mapped items key =
      list_any-map (item_mapped f) (λ item. same_key item.key key && is_file item) (λ item. same_key item.key key && is_file item) (λ x. rw (is_some-map f x.file) refl) items

  pub missing_mapped : (items : List (Item F)) (key : Key) → missing_folders (items_mapped f items) key ≡ missing_folders items key
  missing_mapped items key =
      filter_agree (λ folder. not (has_item (items_mapped f items) folder)) (λ folder. not (has_item items folder)) (λ folder. ap not (has_item_mapped items folder)) (folders_above key)

  pub file_above_mapped : (items : List (Item F)) (key : Key) → file_above (items_mapped f items) key ≡ file_above items key
  file_above_mapped items key = find_agree (has_file items) (has_file (items_mapped f items)) (has_file_mapped items) (folders_above key)

  pub has_folder_mapped : (items : List (Item F)) (key : Key) → has_folder (items_mapped f items) key ≡ has_folder items key
  has_folder_mapped items key = rw (has_item_mapped items key, has_file_mapped items key) refl

  pub added_mapped : (items : List (Item F)) (key : Key) → added_with (items_mapped f items) key ≡ added_with items key
  added_mapped items key = rw (missing_mapped items key, has_item_mapped items key) refl

  -- the first content that has the digests
  pub file_with_mapped : (digests : F → Digests) (seen : G → Digests) (same : (x : F) → seen (f x) ≡ digests x) (wanted : SomeDigests) (items : List (Item F))
      → file_with seen wanted (items_mapped f items) ≡ option_map f (file_with digests wanted items)
  file_with_mapped digests seen same wanted items =
      ap (λ (o : Option (Item G)). option_and_then (λ item. item.file) o)
      (find-map (item_mapped f) (λ item. is_wanted digests wanted item.file) (λ item. is_wanted seen wanted item.file) (λ x. wanted_by x.file) items)
      ∙ its (find (λ (item : Item F). is_wanted digests wanted item.file) items)
    where
      wanted_by : (o : Option F) → is_wanted seen wanted (option_map f o) ≡ is_wanted digests wanted o
      wanted_by None = refl
      wanted_by (Some x) = rw (same x) refl

      its : (o : Option (Item F)) → option_and_then (λ (item : Item G). item.file) (option_map (item_mapped f) o) ≡ option_map f (option_and_then (λ (item : Item F). item.file) o)
      its None = refl
      its (Some item) = refl

  -- what a query asks of an item
  pub facts_mapped : (size : F → ℕ) (seen : G → ℕ) (same : (x : F) → seen (f x) ≡ size x) (item : Item F) → facts_of seen (item_mapped f item) ≡ facts_of size item
  facts_mapped size seen same item = ap (λ (o : Option ℕ). record (facts_of size item) { size = o }) (its item.file)
    where
      its : (o : Option F) → option_map seen (option_map f o) ≡ option_map size o
      its None = refl
      its (Some x) = ap Some (same x)

  -- ---- edits

  pub put_mapped : (new : Item F) (items : List (Item F)) → items_mapped f (put_item new items) ≡ put_item (item_mapped f new) (items_mapped f items)
  put_mapped new items =
      rw (
        filter-map (item_mapped f) (λ item. is_lt (key_cmp item.key new.key)) (λ item. is_lt (key_cmp item.key new.key)) (λ x. refl) items,
        filter-map (item_mapped f) (λ item. is_lt (key_cmp new.key item.key)) (λ item. is_lt (key_cmp new.key item.key)) (λ x. refl) items,
      )
      (map-append (item_mapped f) (filter (λ item. is_lt (key_cmp item.key new.key)) items) (new ∷ filter (λ item. is_lt (key_cmp new.key item.key)) items))

  pub puts_mapped : (news items : List (Item F)) → items_mapped f (put_items news items) ≡ put_items (items_mapped f news) (items_mapped f items)
  puts_mapped [] items = refl
  puts_mapped (new ∷ news) items = puts_mapped news (put_item new items) ∙ ap (put_items (items_mapped f news)) (put_mapped new items)

  module _ (moment : ℤ) (user : List ℕ) where
    folders_mapped : (keys : List Key) → items_mapped f (map (new_folder moment user) keys) ≡ map (new_folder moment user) keys
    folders_mapped [] = refl
    folders_mapped (key ∷ keys) = ap (λ (l : List (Item G)). new_folder moment user key ∷ l) (folders_mapped keys)

    folder_mapped : (items : List (Item F)) (key : Key) → items_mapped f (with_folder items moment user key) ≡ with_folder (items_mapped f items) moment user key
    folder_mapped items key =
        let keys = missing_folders items key ++ key ∷ [] in
        rw (has_item_mapped items key, missing_mapped items key)
        (elim (has_item items key)
        as (λ b. items_mapped f (cond b items (put_items (map (new_folder moment user) keys) items)) ≡ cond b (items_mapped f items) (put_items (map (new_folder moment user) keys) (items_mapped f items)))
        [ true ↦ refl | false ↦ puts_mapped (map (new_folder moment user) keys) items ∙ ap (λ l. put_items l (items_mapped f items)) (folders_mapped keys) ])

    file_mapped : (key : Key) (given : Given) (file : F) (props : List Property) (old : Option (Item F))
        → item_mapped f (deployed moment user key given file props old) ≡ deployed moment user key given (f file) props (option_map (item_mapped f) old)
    file_mapped key given file props None = refl
    file_mapped key given file props (Some item) = refl

    deployed_mapped : (items : List (Item F)) (key : Key) (given : Given) (file : F) (props : List Property)
        → items_mapped f (with_deployed items moment user key given file props) ≡ with_deployed (items_mapped f items) moment user key given (f file) props
    deployed_mapped items key given file props =
        let folders = missing_folders items key in
        let new = deployed moment user key given file props (find_item items key) in
        rw (missing_mapped items key, find_mapped items key)
        (puts_mapped (map (new_folder moment user) folders ++ new ∷ []) items
        ∙ ap (λ l. put_items l (items_mapped f items))
        (map-append (item_mapped f) (map (new_folder moment user) folders) (new ∷ [])
        ∙ ap (λ l. l ++ item_mapped f new ∷ []) (folders_mapped folders)
        ∙ ap (λ (i : Item G). map (new_folder moment user) folders ++ i ∷ []) (file_mapped key given file props (find_item items key))))

    download_mapped : (items : List (Item F)) (key : Key) → items_mapped f (with_download items moment user key) ≡ with_download (items_mapped f items) moment user key
    download_mapped [] key = refl
    download_mapped (x ∷ items) key = rw (download_mapped items key)
        (elim (same_key x.key key) as (λ b. item_mapped f (cond b (counted moment user x) x) ∷ with_download (items_mapped f items) moment user key
        ≡ cond b (counted moment user (item_mapped f x)) (item_mapped f x) ∷ with_download (items_mapped f items) moment user key) [ true ↦ refl | false ↦ refl ])

    pub edited_mapped : (file_of : FileRef → F) (edit : Edit) (items : List (Item F))
        → items_mapped f (edited file_of moment user edit items) ≡ edited (λ ref. f (file_of ref)) moment user edit (items_mapped f items)
    edited_mapped file_of (edits.Folder key) items = folder_mapped items key
    edited_mapped file_of (edits.File key given file props) items = deployed_mapped items key given (file_of file) props
    edited_mapped file_of (edits.Downloaded key) items = download_mapped items key
    edited_mapped file_of (edits.Define def) items = refl
    edited_mapped file_of (edits.Remove key) items = refl
    edited_mapped file_of (edits.Move from to) items = refl
    edited_mapped file_of (edits.Copy from to) items = refl
    edited_mapped file_of (edits.SetProps key deep props) items = refl
    edited_mapped file_of (edits.DropProps key deep keys) items = refl
    edited_mapped file_of (edits.Build info) items = refl
    edited_mapped file_of (edits.Unbuild name number) items = refl
    edited_mapped file_of (edits.Promote name number row) items = refl
    edited_mapped file_of (edits.Kept file) items = refl
    edited_mapped file_of (edits.Item row) items = refl
    edited_mapped file_of (edits.Held row) items = refl

    pub edited_by_mapped : (file_of : FileRef → F) (changes : List Edit) (items : List (Item F))
        → items_mapped f (edited_by file_of moment user changes items) ≡ edited_by (λ ref. f (file_of ref)) moment user changes (items_mapped f items)
    edited_by_mapped file_of [] items = refl
    edited_by_mapped file_of (edit ∷ changes) items =
        edited_by_mapped file_of changes (edited file_of moment user edit items) ∙ ap (edited_by (λ ref. f (file_of ref)) moment user changes) (edited_mapped file_of edit items)

  -- ---- judging looks at no content

  put_refusal_mapped : (limits : Limits) (items : List (Item F)) (key : Key) (taken : Bool) (here : Refusal)
      → put_refusal limits (items_mapped f items) key taken here ≡ put_refusal limits items key taken here
  put_refusal_mapped limits items key taken here = rw (file_above_mapped items key, added_mapped items key, length-map items (item_mapped f)) refl

  pub edit_refusal_mapped : (limits : Limits) (edit : Edit) (items : List (Item F)) → edit_refusal limits edit (items_mapped f items) ≡ edit_refusal limits edit items
  edit_refusal_mapped limits (edits.Folder key) items = rw (has_file_mapped items key) (put_refusal_mapped limits items key (has_file items key) _)
  edit_refusal_mapped limits (edits.File key given file props) items = rw (has_folder_mapped items key) (put_refusal_mapped limits items key (has_folder items key) _)
  edit_refusal_mapped limits (edits.Downloaded key) items = rw (has_file_mapped items key) refl
  edit_refusal_mapped limits (edits.Define def) items = refl
  edit_refusal_mapped limits (edits.Remove key) items = refl
  edit_refusal_mapped limits (edits.Move from to) items = refl
  edit_refusal_mapped limits (edits.Copy from to) items = refl
  edit_refusal_mapped limits (edits.SetProps key deep props) items = refl
  edit_refusal_mapped limits (edits.DropProps key deep keys) items = refl
  edit_refusal_mapped limits (edits.Build info) items = refl
  edit_refusal_mapped limits (edits.Unbuild name number) items = refl
  edit_refusal_mapped limits (edits.Promote name number row) items = refl
  edit_refusal_mapped limits (edits.Kept file) items = refl
  edit_refusal_mapped limits (edits.Item row) items = refl
  edit_refusal_mapped limits (edits.Held row) items = refl

  pub edits_refusal_mapped : (limits : Limits) (file_of : FileRef → F) (moment : ℤ) (user : List ℕ) (changes : List Edit) (items : List (Item F))
      → edits_refusal limits (λ ref. f (file_of ref)) moment user changes (items_mapped f items) ≡ edits_refusal limits file_of moment user changes items
  edits_refusal_mapped limits file_of moment user [] items = refl
  edits_refusal_mapped limits file_of moment user (edit ∷ changes) items =
      rw (edit_refusal_mapped limits edit items, sym (edited_mapped moment user file_of edit items), edits_refusal_mapped limits file_of moment user changes (edited file_of moment user edit items)) refl
