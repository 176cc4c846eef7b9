-- Laws of the edits: items whose contents are seen as something else are edited and judged alike.
use Rattle.std.specs.Prelude.{◌≡◌, ◌&&◌, ℕ, ℤ, Bool, true, false, not, cond, nat_lt, List, [], ◌∷◌, ◌++◌, length, map, is_some, refl}
use Rattle.std.proofs.Common.{sym, ap, ◌∙◌}
use Rattle.std.proofs.lemmas.List.{map-append, length-map}
use Rattle.arti_rows.specs.Key.{Key}
use Rattle.arti_rows.specs.Names.{length_fault}
use Rattle.arti_rows.specs.declared.limits.Limits.{Limits}
use Rattle.arti_rows.specs.declared.rows.FileRef.{FileRef}
use Rattle.arti_rows.specs.declared.rows.Property.{Property}
use Rattle.arti_rows.specs.declared.edits.Edit.{Edit}
use Rattle.arti_rows.specs.declared.edits.Edit.TheVariants as edits
use Rattle.arti_model.specs.Store.{Item, put_items, new_folder, missing_folders}
use Rattle.arti_model.specs.Mapped.{item_mapped, items_mapped}
use Rattle.arti_model.specs.Laws.{list_any-map, filter-map, has_item_mapped, has_file_mapped, missing_mapped, file_above_mapped, puts_mapped, edited_mapped as put_edited_mapped, edit_refusal_mapped as put_refusal_mapped}
use Rattle.arti_model.specs.Edits.{is_within, moved_whole, items_within, items_without, new_folders, moved_item, with_moved, copied_item, with_copied, props_set, props_dropped, acts_on, with_props, with_changed_props, edited, edited_by, most_props, is_too_much, has_no_room, is_taken, outgrows, added_at, move_refusal, edit_refusal, edits_refusal}

-- a map after another, where the second does the same before it
map-swap : {A B : Type 0} (f : A → B) (g : A → A) (h : B → B) (same : (x : A) → f (g x) ≡ h (f x)) (xs : List A) → map f (map g xs) ≡ map h (map f xs)
map-swap f g h same [] = refl
map-swap f g h same (x ∷ xs) = rw (same x, map-swap f g h same xs) refl

module _ {F G : Type 0} (f : F → G) where
  within_mapped : (top : Key) (items : List (Item F)) → items_within top (items_mapped f items) ≡ items_mapped f (items_within top items)
  within_mapped top items = filter-map (item_mapped f) (λ item. is_within top item.key) (λ item. is_within top item.key) (λ x. refl) items

  without_mapped : (top : Key) (items : List (Item F)) → items_without top (items_mapped f items) ≡ items_mapped f (items_without top items)
  without_mapped top items = filter-map (item_mapped f) (λ item. not (is_within top item.key)) (λ item. not (is_within top item.key)) (λ x. refl) items

  many_mapped : (top : Key) (items : List (Item F)) → length (items_within top (items_mapped f items)) ≡ length (items_within top items)
  many_mapped top items = ap (λ (l : List (Item G)). length l) (within_mapped top items) ∙ length-map (items_within top items) (item_mapped f)

  -- ---- what edits do

  module _ (moment : ℤ) (user : List ℕ) where
    folders_mapped : (items : List (Item F)) (key : Key) → items_mapped f (new_folders items moment user key) ≡ new_folders (items_mapped f items) moment user key
    folders_mapped items key = rw (missing_mapped f items key) (each (missing_folders items key))
      where
        each : (keys : List Key) → items_mapped f (map (new_folder moment user) keys) ≡ map (new_folder moment user) keys
        each [] = refl
        each (key ∷ keys) = ap (λ (l : List (Item G)). new_folder moment user key ∷ l) (each keys)

    -- folders are made, and what lies within a key comes to another
    come_mapped : (here : Item F → Item F) (there : Item G → Item G) (same : (x : Item F) → item_mapped f (here x) ≡ there (item_mapped f x)) (from to : Key) (items rest : List (Item F))
        → items_mapped f (put_items (new_folders items moment user to ++ map here (items_within from items)) rest)
        ≡ put_items (new_folders (items_mapped f items) moment user to ++ map there (items_within from (items_mapped f items))) (items_mapped f rest)
    come_mapped here there same from to items rest =
        puts_mapped f (new_folders items moment user to ++ map here (items_within from items)) rest
        ∙ ap (λ (l : List (Item G)). put_items l (items_mapped f rest))
        (map-append (item_mapped f) (new_folders items moment user to) (map here (items_within from items))
        ∙ ap (λ (l : List (Item G)). l ++ items_mapped f (map here (items_within from items))) (folders_mapped items to)
        ∙ ap (λ (l : List (Item G)). new_folders (items_mapped f items) moment user to ++ l)
        (map-swap (item_mapped f) here there same (items_within from items) ∙ ap (λ (l : List (Item G)). map there l) (sym (within_mapped from items))))

    moved_mapped : (from to : Key) (items : List (Item F)) → items_mapped f (with_moved items moment user from to) ≡ with_moved (items_mapped f items) moment user from to
    moved_mapped from to items =
        come_mapped (moved_item moment from to) (moved_item moment from to) (λ x. refl) from to items (items_without from items)
        ∙ ap (λ (l : List (Item G)). put_items (new_folders (items_mapped f items) moment user to ++ map (moved_item moment from to) (items_within from (items_mapped f items))) l)
        (sym (without_mapped from items))

    copied_mapped : (from to : Key) (items : List (Item F)) → items_mapped f (with_copied items moment user from to) ≡ with_copied (items_mapped f items) moment user from to
    copied_mapped from to items = come_mapped (copied_item moment user from to) (copied_item moment user from to) (λ x. refl) from to items items

    props_mapped : (deep : Bool) (key : Key) (change : List Property → List Property) (items : List (Item F))
        → items_mapped f (with_changed_props items moment deep key change) ≡ with_changed_props (items_mapped f items) moment deep key change
    props_mapped deep key change items =
        map-swap (item_mapped f) (λ (x : Item F). cond (acts_on deep key x.key) (with_props moment change x) x) (λ (x : Item G). cond (acts_on deep key x.key) (with_props moment change x) x)
        (λ x. elim (acts_on deep key x.key) as (λ b. item_mapped f (cond b (with_props moment change x) x) ≡ cond b (with_props moment change (item_mapped f x)) (item_mapped f x)) [ true ↦ refl | false ↦ refl ])
        items

    pub edited_mapped : (file_of : FileRef → F) (edit : Edit) (items : List (Item F))
        → items_mapped f (edited file_of moment user edit items) ≡ edited (λ ref. f (file_of ref)) moment user edit (items_mapped f items)
    edited_mapped file_of (edits.Folder key) items = put_edited_mapped f moment user file_of (edits.Folder key) items
    edited_mapped file_of (edits.File key given file props) items = put_edited_mapped f moment user file_of (edits.File key given file props) items
    edited_mapped file_of (edits.Remove key) items = sym (without_mapped key items)
    edited_mapped file_of (edits.Move from to) items = moved_mapped from to items
    edited_mapped file_of (edits.Copy from to) items = copied_mapped from to items
    edited_mapped file_of (edits.SetProps key deep props) items = props_mapped deep key (props_set props) items
    edited_mapped file_of (edits.DropProps key deep keys) items = props_mapped deep key (props_dropped keys) items
    edited_mapped file_of (edits.Downloaded key) items = put_edited_mapped f moment user file_of (edits.Downloaded key) items
    edited_mapped file_of (edits.Define def) items = refl
    edited_mapped file_of (edits.Build info) items = refl
    edited_mapped file_of (edits.Unbuild name number) items = refl
    edited_mapped file_of (edits.Promote name number row) items = refl
    edited_mapped file_of (edits.Kept file) items = refl
    edited_mapped file_of (edits.Item row) items = refl
    edited_mapped file_of (edits.Held row) items = refl

    pub edited_by_mapped : (file_of : FileRef → F) (changes : List Edit) (items : List (Item F))
        → items_mapped f (edited_by file_of moment user changes items) ≡ edited_by (λ ref. f (file_of ref)) moment user changes (items_mapped f items)
    edited_by_mapped file_of [] items = refl
    edited_by_mapped file_of (edit ∷ changes) items =
        edited_by_mapped file_of changes (edited file_of moment user edit items) ∙ ap (edited_by (λ ref. f (file_of ref)) moment user changes) (edited_mapped file_of edit items)

  -- ---- judging looks at no content

  much_mapped : (items : List (Item F)) (key : Key) → is_too_much (items_mapped f items) key ≡ is_too_much items key
  much_mapped items key = rw (many_mapped key items) refl

  room_mapped : (items : List (Item F)) (deep : Bool) (key : Key) (named : List Property) → has_no_room (items_mapped f items) deep key named ≡ has_no_room items deep key named
  room_mapped items deep key named =
      list_any-map (item_mapped f) (λ item. acts_on deep key item.key && nat_lt most_props (length (props_set named item.props)))
      (λ item. acts_on deep key item.key && nat_lt most_props (length (props_set named item.props))) (λ x. refl) items

  outgrows_mapped : (items : List (Item F)) (from to : Key) → outgrows (items_mapped f items) from to ≡ outgrows items from to
  outgrows_mapped items from to =
      list_any-map (item_mapped f) (λ item. is_within from item.key && is_some (length_fault (moved_whole from to item.key)))
      (λ item. is_within from item.key && is_some (length_fault (moved_whole from to item.key))) (λ x. refl) items

  taken_mapped : (items : List (Item F)) (from to : Key) → is_taken (items_mapped f items) from to ≡ is_taken items from to
  taken_mapped items from to = rw (has_item_mapped f items to, has_file_mapped f items to, has_file_mapped f items from) refl

  added_at_mapped : (items : List (Item F)) (to : Key) (count : ℕ) → added_at (items_mapped f items) to count ≡ added_at items to count
  added_at_mapped items to count = rw (missing_mapped f items to, has_item_mapped f items to) refl

  move_refusal_mapped : (limits : Limits) (items : List (Item F)) (from to : Key) (added : ℕ) → move_refusal limits (items_mapped f items) from to added ≡ move_refusal limits items from to added
  move_refusal_mapped limits items from to added =
      rw (
        has_item_mapped f items from,
        taken_mapped items from to,
        file_above_mapped f items to,
        outgrows_mapped items from to,
        much_mapped items from,
        length-map items (item_mapped f),
      )
      refl

  pub edit_refusal_mapped : (limits : Limits) (edit : Edit) (items : List (Item F)) → edit_refusal limits edit (items_mapped f items) ≡ edit_refusal limits edit items
  edit_refusal_mapped limits (edits.Folder key) items = put_refusal_mapped f limits (edits.Folder key) items
  edit_refusal_mapped limits (edits.File key given file props) items = put_refusal_mapped f limits (edits.File key given file props) items
  edit_refusal_mapped limits (edits.Remove key) items = rw (has_item_mapped f items key, much_mapped items key) refl
  edit_refusal_mapped limits (edits.Move from to) items = rw (added_at_mapped items to 0) (move_refusal_mapped limits items from to (added_at items to 0))
  edit_refusal_mapped limits (edits.Copy from to) items =
      let count = length (items_within from items) in
      ap (λ n. move_refusal limits (items_mapped f items) from to (added_at (items_mapped f items) to n)) (many_mapped from items)
      ∙ ap (move_refusal limits (items_mapped f items) from to) (added_at_mapped items to count)
      ∙ move_refusal_mapped limits items from to (added_at items to count)
  edit_refusal_mapped limits (edits.SetProps key deep props) items = rw (has_item_mapped f items key, much_mapped items key, room_mapped items deep key props) refl
  edit_refusal_mapped limits (edits.DropProps key deep keys) items = rw (has_item_mapped f items key, much_mapped items key) refl
  edit_refusal_mapped limits (edits.Downloaded key) items = put_refusal_mapped f limits (edits.Downloaded key) items
  edit_refusal_mapped limits (edits.Define def) items = refl
  edit_refusal_mapped limits (edits.Build info) items = refl
  edit_refusal_mapped limits (edits.Unbuild name number) items = refl
  edit_refusal_mapped limits (edits.Promote name number row) items = refl
  edit_refusal_mapped limits (edits.Kept file) items = refl
  edit_refusal_mapped limits (edits.Item row) items = refl
  edit_refusal_mapped limits (edits.Held row) items = refl

  pub edits_refusal_mapped : (limits : Limits) (file_of : FileRef → F) (moment : ℤ) (user : List ℕ) (changes : List Edit) (items : List (Item F))
      → edits_refusal limits (λ ref. f (file_of ref)) moment user changes (items_mapped f items) ≡ edits_refusal limits file_of moment user changes items
  edits_refusal_mapped limits file_of moment user [] items = refl
  edits_refusal_mapped limits file_of moment user (edit ∷ changes) items =
      rw (edit_refusal_mapped limits edit items, sym (edited_mapped moment user file_of edit items), edits_refusal_mapped limits file_of moment user changes (edited file_of moment user edit items)) refl
