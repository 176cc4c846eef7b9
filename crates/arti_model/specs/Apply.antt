-- What a change does to a store (of this project): its edits one after the other, and why one is refused.
use Rattle.std.specs.Prelude.{ℕ, ◌+◌, min, ℤ, Bool, true, false, not, ◌&&◌, nat_le, nat_eq, ◌==◌, if◌then◌else◌, List, [], ◌∷◌, ◌++◌, length, map, Option, Some, None, option_map, unwrap_or}
use Rattle.std.specs.List.{find, list_any}
use Rattle.std.specs.Cmp.Lexicographic.{pointwise}
use Rattle.arti_rows.specs.Key.{Key, folders_above}
use Rattle.arti_rows.specs.declared.limits.Limits.{Limits}
use Rattle.arti_rows.specs.declared.rows.Digests.{Digests}
use Rattle.arti_rows.specs.declared.rows.FileRef.{FileRef}
use Rattle.arti_rows.specs.declared.rows.Given.{Given}
use Rattle.arti_rows.specs.declared.rows.Property.{Property}
use Rattle.arti_rows.specs.declared.rows.Stat.{Stat}
use Rattle.arti_rows.specs.declared.edits.Edit.{Edit}
use Rattle.arti_rows.specs.declared.edits.Edit.TheVariants as edits
use Rattle.arti_rows.specs.declared.edits.Change.{Change}
use Rattle.arti_rows.specs.declared.refusal.Refusal.{Refusal}
use Rattle.arti_rows.specs.declared.refusal.Refusal.TheVariants.{NoRepo, FileAbove, FolderHere, FileHere, NotFound, Full, NotYet}
use Rattle.arti_rows.specs.declared.refusal.Which.TheVariants.{Items}
use Rattle.arti_model.specs.Store.{Repository, Item, File, opening, find_item, has_file, has_item, same_key, put_items, local_key, new_folder, missing_folders}

-- what a store has: its repository, and the contents that are kept with their digests, no pair twice, in the order of keeping
pub record Holding : Type 0 where
  pub repository : Repository File
  pub kept : List File

-- a new store's
abbrev pub nothing_kept : Holding
nothing_kept = record { repository = opening; kept = [] }

-- ---- what edits do

-- a folder is made with those above it, where it is missing
abbrev pub with_folder : {F : Type 0} → List (Item F) → ℤ → List ℕ → Key → List (Item F)
with_folder items moment user key =
    if has_item items key then items else put_items (map (new_folder moment user) (missing_folders items key ++ key ∷ [])) items

-- a file that is deployed; one that was there before tells when and by whom the item was created
abbrev pub deployed : {F : Type 0} → ℤ → List ℕ → Key → Given → F → List Property → Option (Item F) → Item F
deployed moment user key given file props old = record {
  key = key;
  created = unwrap_or (option_map (λ item. item.created) old) moment;
  created_by = unwrap_or (option_map (λ item. item.created_by) old) user;
  modified = moment;
  modified_by = user;
  updated = moment;
  given = given;
  file = Some file;
  props = props;
  stat = None;
}

-- a file comes to its place, and the folders above it that are missing
abbrev pub with_deployed : {F : Type 0} → List (Item F) → ℤ → List ℕ → Key → Given → F → List Property → List (Item F)
with_deployed items moment user key given file props =
    put_items (map (new_folder moment user) (missing_folders items key) ++ deployed moment user key given file props (find_item items key) ∷ []) items

-- how often an item was fetched
abbrev pub downloads_of : Option Stat → ℕ
downloads_of None = 0
downloads_of (Some stat) = stat.downloads

-- once more; the count stands still at the greatest number of 64 bits
abbrev pub counted : {F : Type 0} → ℤ → List ℕ → Item F → Item F
counted moment user item =
    record item { stat = Some (record { downloads = min (downloads_of item.stat + 1) 18_446_744_073_709_551_615; downloaded = moment; downloaded_by = user }) }

abbrev pub with_download : {F : Type 0} → List (Item F) → ℤ → List ℕ → Key → List (Item F)
with_download items moment user key = map (λ item. if same_key item.key key then counted moment user item else item) items

-- two triples of digests are one
abbrev pub same_digests : Digests → Digests → Bool
same_digests a b = pointwise nat_eq a.md5 b.md5 && pointwise nat_eq a.sha1 b.sha1 && pointwise nat_eq a.sha256 b.sha256

-- two pairs of a content and its digests are one
abbrev pub same_file : File → File → Bool
same_file a b = pointwise nat_eq a.content b.content && same_digests a.digests b.digests

-- a pair is kept, unless it is already
abbrev pub keep : File → List File → List File
keep file kept = if list_any (same_file file) kept then kept else kept ++ file ∷ []

-- What one edit does to the items, where `file_of` tells the content of a reference. An edit that isn't built changes nothing.
abbrev pub edited : {F : Type 0} → (FileRef → F) → ℤ → List ℕ → Edit → List (Item F) → List (Item F)
edited file_of moment user (edits.Folder key) items = with_folder items moment user key
edited file_of moment user (edits.File key given file props) items = with_deployed items moment user key given (file_of file) props
edited file_of moment user (edits.Downloaded key) items = with_download items moment user key
edited file_of moment user edit items = items

-- what it adds to the kept contents
abbrev pub keep_edited : (FileRef → File) → Edit → List File → List File
keep_edited file_of (edits.File key given file props) kept = keep (file_of file) kept
keep_edited file_of edit kept = kept

-- the same of several, one after the other
abbrev pub edited_by : {F : Type 0} → (FileRef → F) → ℤ → List ℕ → List Edit → List (Item F) → List (Item F)
edited_by file_of moment user [] items = items
edited_by file_of moment user (edit ∷ edits) items = edited_by file_of moment user edits (edited file_of moment user edit items)

abbrev pub keep_edited_by : (FileRef → File) → List Edit → List File → List File
keep_edited_by file_of [] kept = kept
keep_edited_by file_of (edit ∷ edits) kept = keep_edited_by file_of edits (keep_edited file_of edit kept)

-- a change
unfoldable pub apply : (FileRef → File) → Change → Holding → Holding
apply file_of change h = record {
  repository = record { items = edited_by file_of change.moment change.user change.edits h.repository.items };
  kept = keep_edited_by file_of change.edits h.kept;
}

-- changes one after the other
abbrev pub apply_all : (FileRef → File) → List Change → Holding → Holding
apply_all file_of [] h = h
apply_all file_of (change ∷ changes) h = apply_all file_of changes (apply file_of change h)

-- ---- why an edit is refused

-- the one repository
abbrev pub is_local : Key → Bool
is_local key = pointwise nat_eq key.repo local_key

-- that refusal, or the next
abbrev pub refused_if : Bool → Refusal → Option Refusal → Option Refusal
refused_if true refusal next = Some refusal
refused_if false refusal next = next

-- a file above, or the next refusal
abbrev pub refused_below : Option Key → Option Refusal → Option Refusal
refused_below None next = next
refused_below (Some file) next = Some (FileAbove file)

-- the topmost file above a key
abbrev pub file_above : {F : Type 0} → List (Item F) → Key → Option Key
file_above items key = find (has_file items) (folders_above key)

-- a folder stands at the key
abbrev pub has_folder : {F : Type 0} → List (Item F) → Key → Bool
has_folder items key = has_item items key && not (has_file items key)

-- how many items come where that one is put
abbrev pub added_with : {F : Type 0} → List (Item F) → Key → ℕ
added_with items key = length (missing_folders items key) + (if has_item items key then 0 else 1)

-- items come, and there is no room for them
abbrev pub passes_limit : {F : Type 0} → Limits → List (Item F) → ℕ → Bool
passes_limit limits items added = not (added == 0) && not (nat_le (length items + added) limits.items)

-- of an item that is put, where `taken` says whether one of the other kind stands there
abbrev pub put_refusal : {F : Type 0} → Limits → List (Item F) → Key → Bool → Refusal → Option Refusal
put_refusal limits items key taken here =
    refused_if (not (is_local key)) (NoRepo key.repo) (
    refused_below (file_above items key) (
    refused_if taken here (
    refused_if (passes_limit limits items (added_with items key)) (Full Items) None)))

-- the refusal of an edit; one that isn't built is refused
abbrev pub edit_refusal : {F : Type 0} → Limits → Edit → List (Item F) → Option Refusal
edit_refusal limits (edits.Folder key) items = put_refusal limits items key (has_file items key) (FileHere key)
edit_refusal limits (edits.File key given file props) items = put_refusal limits items key (has_folder items key) (FolderHere key)
edit_refusal limits (edits.Downloaded key) items =
    refused_if (not (is_local key)) (NoRepo key.repo) (refused_if (not (has_file items key)) (NotFound key) None)
edit_refusal limits edit items = Some (NotYet None)

-- the first of two
abbrev pub first_refusal : Option Refusal → Option Refusal → Option Refusal
first_refusal None next = next
first_refusal (Some refusal) next = Some refusal

-- the first refusal of some edits, each judged after those before it
abbrev pub edits_refusal : {F : Type 0} → Limits → (FileRef → F) → ℤ → List ℕ → List Edit → List (Item F) → Option Refusal
edits_refusal limits file_of moment user [] items = None
edits_refusal limits file_of moment user (edit ∷ edits) items =
    first_refusal (edit_refusal limits edit items) (edits_refusal limits file_of moment user edits (edited file_of moment user edit items))

-- the refusal of a change
unfoldable pub refusal : Limits → (FileRef → File) → Change → Holding → Option Refusal
refusal limits file_of change h = edits_refusal limits file_of change.moment change.user change.edits h.repository.items
