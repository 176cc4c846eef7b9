-- What each edit does to the items of a repository, and why it is refused (of this project).
use Rattle.std.specs.Prelude.{ℕ, ◌+◌, ◌-◌, ℤ, Bool, not, ◌&&◌, ◌||◌, nat_eq, nat_lt, if◌then◌else◌, List, [], ◌∷◌, ◌++◌, length, drop, map, filter, Option, Some, None, is_some}
use Rattle.std.specs.List.{list_any}
use Rattle.std.specs.Cmp.Lexicographic.{pointwise}
use Rattle.arti_rows.specs.Key.{Key, key_of, whole_of, folders_above}
use Rattle.arti_rows.specs.Names.{length_fault}
use Rattle.arti_rows.specs.PropTexts.{property_cmp, in_order}
use Rattle.arti_rows.specs.declared.limits.Limits.{Limits}
use Rattle.arti_rows.specs.declared.rows.FileRef.{FileRef}
use Rattle.arti_rows.specs.declared.rows.Property.{Property}
use Rattle.arti_rows.specs.declared.edits.Edit.{Edit}
use Rattle.arti_rows.specs.declared.edits.Edit.TheVariants as edits
use Rattle.arti_rows.specs.declared.refusal.Refusal.{Refusal}
use Rattle.arti_rows.specs.declared.refusal.Refusal.TheVariants.{NoRepo, NotFound, IntoItself, TargetTaken, FolderHere, FileHere, TooLong, TooManyItems, Full, NotYet}
use Rattle.arti_rows.specs.declared.refusal.Which.TheVariants.{Items, Properties}
use Rattle.arti_model.specs.Store.{Item, same_key, has_item, has_file, put_items, new_folder, missing_folders}
use Rattle.arti_model.specs.Apply.{with_folder, with_deployed, with_download, is_local, refused_if, refused_below, file_above, has_folder, passes_limit, put_refusal, first_refusal}

-- ---- keys

-- a key is this one, or lies beneath it at whatever depth
abbrev pub is_within : Key → Key → Bool
is_within top key = same_key key top || list_any (λ folder. same_key folder top) (folders_above key)

-- path and name joined, with those of one key at their front replaced by those of another
abbrev pub moved_whole : Key → Key → Key → List ℕ
moved_whole from to key = whole_of to ++ drop (length (whole_of from)) (whole_of key)

-- the key that a key within one gets where that one becomes another
abbrev pub moved_key : Key → Key → Key → Key
moved_key from to key = key_of to.repo (moved_whole from to key)

-- ---- what edits do

-- the item of a key and the items beneath it
abbrev pub items_within : {F : Type 0} → Key → List (Item F) → List (Item F)
items_within top items = filter (λ item. is_within top item.key) items

-- all other items
abbrev pub items_without : {F : Type 0} → Key → List (Item F) → List (Item F)
items_without top items = filter (λ item. not (is_within top item.key)) items

-- the folders above a key, where they are missing
abbrev pub new_folders : {F : Type 0} → List (Item F) → ℤ → List ℕ → Key → List (Item F)
new_folders items moment user key = map (new_folder moment user) (missing_folders items key)

-- an item that moves keeps all but its key and the moment of its update
abbrev pub moved_item : {F : Type 0} → ℤ → Key → Key → Item F → Item F
moved_item moment from to item = record item { key = moved_key from to item.key; updated = moment }

-- an item and those beneath it move; a file that stands at the target goes
abbrev pub with_moved : {F : Type 0} → List (Item F) → ℤ → List ℕ → Key → Key → List (Item F)
with_moved items moment user from to =
    put_items (new_folders items moment user to ++ map (moved_item moment from to) (items_within from items)) (items_without from items)

-- a copy is created anew, keeps when and by whom the item was modified, and was never fetched
abbrev pub copied_item : {F : Type 0} → ℤ → List ℕ → Key → Key → Item F → Item F
copied_item moment user from to item =
    record item { key = moved_key from to item.key; created = moment; created_by = user; updated = moment; stat = None }

-- an item and those beneath it are copied; a file that stands at the target goes
abbrev pub with_copied : {F : Type 0} → List (Item F) → ℤ → List ℕ → Key → Key → List (Item F)
with_copied items moment user from to =
    put_items (new_folders items moment user to ++ map (copied_item moment user from to) (items_within from items)) items

-- some of the properties have the key
abbrev pub names_key : List Property → List ℕ → Bool
names_key props key = list_any (λ pair. pointwise nat_eq pair.key key) props

-- the values of each key that is named are replaced
abbrev pub props_set : List Property → List Property → List Property
props_set named props = in_order property_cmp (filter (λ pair. not (names_key named pair.key)) props ++ named)

-- the properties of these keys go
abbrev pub props_dropped : List (List ℕ) → List Property → List Property
props_dropped keys props = filter (λ pair. not (list_any (pointwise nat_eq pair.key) keys)) props

-- what an edit of properties acts on: the item of the key, and where it is deep those beneath it too
abbrev pub acts_on : Bool → Key → Key → Bool
acts_on deep top key = if deep then is_within top key else same_key key top

abbrev pub with_props : {F : Type 0} → ℤ → (List Property → List Property) → Item F → Item F
with_props moment change item = record item { props = change item.props; updated = moment }

-- the properties of some items change; each is updated, also where nothing changes
abbrev pub with_changed_props : {F : Type 0} → List (Item F) → ℤ → Bool → Key → (List Property → List Property) → List (Item F)
with_changed_props items moment deep key change = map (λ item. if acts_on deep key item.key then with_props moment change item else item) items

-- What one edit does to the items, where `file_of` tells the content of a reference. An edit that isn't built changes nothing.
abbrev pub edited : {F : Type 0} → (FileRef → F) → ℤ → List ℕ → Edit → List (Item F) → List (Item F)
edited file_of moment user (edits.Folder key) items = with_folder items moment user key
edited file_of moment user (edits.File key given file props) items = with_deployed items moment user key given (file_of file) props
edited file_of moment user (edits.Remove key) items = items_without key items
edited file_of moment user (edits.Move from to) items = with_moved items moment user from to
edited file_of moment user (edits.Copy from to) items = with_copied items moment user from to
edited file_of moment user (edits.SetProps key deep props) items = with_changed_props items moment deep key (props_set props)
edited file_of moment user (edits.DropProps key deep keys) items = with_changed_props items moment deep key (props_dropped keys)
edited file_of moment user (edits.Downloaded key) items = with_download items moment user key
edited file_of moment user edit items = items

-- several, one after the other
abbrev pub edited_by : {F : Type 0} → (FileRef → F) → ℤ → List ℕ → List Edit → List (Item F) → List (Item F)
edited_by file_of moment user [] items = items
edited_by file_of moment user (edit ∷ others) items = edited_by file_of moment user others (edited file_of moment user edit items)

-- ---- why an edit is refused

-- how many items one edit may touch
abbrev pub most_touched : ℕ
most_touched = 16384

-- how many properties an item may have
abbrev pub most_props : ℕ
most_props = 1024

-- of an edit of what is there: its repository and the item are, or the next refusal
abbrev pub refused_unless_there : {F : Type 0} → List (Item F) → Key → Option Refusal → Option Refusal
refused_unless_there items key next =
    refused_if (not (is_local key)) (NoRepo key.repo) (refused_if (not (has_item items key)) (NotFound key) next)

-- more items lie within the key than one edit may touch
abbrev pub is_too_much : {F : Type 0} → List (Item F) → Key → Bool
is_too_much items key = nat_lt most_touched (length (items_within key items))

-- some item would have too many properties
abbrev pub has_no_room : {F : Type 0} → List (Item F) → Bool → Key → List Property → Bool
has_no_room items deep key named = list_any (λ item. acts_on deep key item.key && nat_lt most_props (length (props_set named item.props))) items

-- something stands at the target, and isn't a file that a file replaces
abbrev pub is_taken : {F : Type 0} → List (Item F) → Key → Key → Bool
is_taken items from to = has_item items to && not (has_file items to && has_file items from)

-- some key would be too long, or lie in too many folders
abbrev pub outgrows : {F : Type 0} → List (Item F) → Key → Key → Bool
outgrows items from to = list_any (λ item. is_within from item.key && is_some (length_fault (moved_whole from to item.key))) items

-- how many items come where so many come to the target
abbrev pub added_at : {F : Type 0} → List (Item F) → Key → ℕ → ℕ
added_at items to count = length (missing_folders items to) + count - (if has_item items to then 1 else 0)

-- of an item that comes to another key with all beneath it, where that adds so many items
abbrev pub move_refusal : {F : Type 0} → Limits → List (Item F) → Key → Key → ℕ → Option Refusal
move_refusal limits items from to added =
    refused_if (not (is_local from)) (NoRepo from.repo) (
    refused_if (not (is_local to)) (NoRepo to.repo) (
    refused_if (not (has_item items from)) (NotFound from) (
    refused_if (is_within from to) (IntoItself to) (
    refused_if (is_taken items from to) (TargetTaken to) (
    refused_below (file_above items to) (
    refused_if (outgrows items from to) (TooLong None) (
    refused_if (is_too_much items from) TooManyItems (
    refused_if (passes_limit limits items added) (Full Items) None))))))))

-- the refusal of an edit; one that isn't built is refused
abbrev pub edit_refusal : {F : Type 0} → Limits → Edit → List (Item F) → Option Refusal
edit_refusal limits (edits.Folder key) items = put_refusal limits items key (has_file items key) (FileHere key)
edit_refusal limits (edits.File key given file props) items = put_refusal limits items key (has_folder items key) (FolderHere key)
edit_refusal limits (edits.Remove key) items = refused_unless_there items key (refused_if (is_too_much items key) TooManyItems None)
edit_refusal limits (edits.Move from to) items = move_refusal limits items from to (added_at items to 0)
edit_refusal limits (edits.Copy from to) items = move_refusal limits items from to (added_at items to (length (items_within from items)))
edit_refusal limits (edits.SetProps key deep props) items =
    refused_unless_there items key (refused_if (deep && is_too_much items key) TooManyItems (
    refused_if (has_no_room items deep key props) (Full Properties) None))
edit_refusal limits (edits.DropProps key deep keys) items = refused_unless_there items key (refused_if (deep && is_too_much items key) TooManyItems None)
edit_refusal limits (edits.Downloaded key) items =
    refused_if (not (is_local key)) (NoRepo key.repo) (refused_if (not (has_file items key)) (NotFound key) None)
edit_refusal limits edit items = Some (NotYet None)

-- the first refusal of some edits, each judged after those before it
abbrev pub edits_refusal : {F : Type 0} → Limits → (FileRef → F) → ℤ → List ℕ → List Edit → List (Item F) → Option Refusal
edits_refusal limits file_of moment user [] items = None
edits_refusal limits file_of moment user (edit ∷ others) items =
    first_refusal (edit_refusal limits edit items) (edits_refusal limits file_of moment user others (edited file_of moment user edit items))
