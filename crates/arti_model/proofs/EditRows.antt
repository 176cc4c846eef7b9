-- What edits do and why they are refused, computed on small repositories whose contents are numbers.
use Rattle.std.specs.Prelude.{◌≡◌, refl, ℕ, ◌<◌, ◌≤◌, pos, true, false, codes, List, [], ◌∷◌, Option, Some, None}
use Rattle.std.proofs.Common.{arith}
use Rattle.arti_rows.specs.Key.{Key, key_of}
use Rattle.arti_rows.specs.declared.limits.Limits.{Limits}
use Rattle.arti_rows.specs.declared.rows.FileRef.{FileRef}
use Rattle.arti_rows.specs.declared.rows.Property.{Property}
use Rattle.arti_rows.specs.declared.edits.Edit.{Edit}
use Rattle.arti_rows.specs.declared.edits.Edit.TheVariants as edits
use Rattle.arti_rows.specs.declared.refusal.Refusal.{Refusal}
use Rattle.arti_rows.specs.declared.refusal.Refusal.TheVariants as refusal
use Rattle.arti_rows.specs.declared.refusal.Which.TheVariants.{Items}
use Rattle.arti_model.specs.Store.{Item, new_folder}
use Rattle.arti_model.specs.Edits.{edited_by, edits_refusal}

abbrev pub at : List ℕ → Key
at whole = key_of (codes "generic-local") whole

abbrev pub pair : List ℕ → List ℕ → Property
pair key value = record { key = key; value = value }

-- a file of `me` at moment 1, fetched twice
abbrev file : List ℕ → ℕ → List Property → Item ℕ
file whole content props = record (new_folder (pos 1) (codes "me") (at whole)) {
  file = Some content;
  props = props;
  stat = Some (record { downloads = 2; downloaded = pos 2; downloaded_by = codes "you" });
}

abbrev folder : List ℕ → Item ℕ
folder whole = new_folder (pos 1) (codes "me") (at whole)

-- two files in two folders, and one whose name begins as the folder's
abbrev pub items : List (Item ℕ)
items = folder (codes "a") ∷ file (codes "a.txt") 7 [] ∷ file (codes "a/b.txt") 8 (pair (codes "k") (codes "old") ∷ pair (codes "z") (codes "1") ∷ []) ∷ folder (codes "a/c") ∷ file (codes "a/c/d") 9 [] ∷ []

-- the edits of somebody else at moment 5
abbrev after : List Edit → List (Item ℕ)
after changes = edited_by (λ (ref : FileRef). ref.len) (pos 5) (codes "you") changes items

-- so many items at most
abbrev pub limits_of : (most : ℕ) → 0 < most → most ≤ 9 → Limits
limits_of most some few = record {
  repositories = 1;
  items = most;
  builds = 1;
  content = 1;
  document = 1;
  journal = 1;
  blobs = 1;
  requests = 1;
  within = record {
    repositories_fit = (omega arith, omega arith);
    items_fit = (some, omega (arith, few));
    builds_fit = (omega arith, omega arith);
    content_fits = (omega arith, omega arith);
    document_fits = (omega arith, omega arith);
    journal_fits = (omega arith, omega arith);
    blobs_fit = (omega arith, omega arith);
    requests_fit = (omega arith, omega arith);
  };
}

abbrev refused : (most : ℕ) → 0 < most → most ≤ 9 → List Edit → Option Refusal
refused most some few changes = edits_refusal (limits_of most some few) (λ (ref : FileRef). ref.len) (pos 5) (codes "you") changes items

abbrev updated : Item ℕ → Item ℕ
updated item = record item { updated = pos 5 }

-- ---- what they do

removed : after (edits.Remove (at (codes "a")) ∷ []) ≡ file (codes "a.txt") 7 [] ∷ []
removed = refl

removed_file : after (edits.Remove (at (codes "a/c/d")) ∷ []) ≡ folder (codes "a") ∷ file (codes "a.txt") 7 [] ∷ file (codes "a/b.txt") 8 (pair (codes "k") (codes "old") ∷ pair (codes "z") (codes "1") ∷ []) ∷ folder (codes "a/c") ∷ []
removed_file = refl

-- a move keeps who made it and how often it was fetched
moved : after (edits.Move (at (codes "a/c")) (at (codes "e/f")) ∷ edits.Remove (at (codes "a")) ∷ [])
    ≡ file (codes "a.txt") 7 [] ∷ new_folder (pos 5) (codes "you") (at (codes "e")) ∷ updated (folder (codes "e/f")) ∷ updated (file (codes "e/f/d") 9 []) ∷ []
moved = refl

moved_onto_file : after (edits.Remove (at (codes "a/c")) ∷ edits.Move (at (codes "a/b.txt")) (at (codes "a.txt")) ∷ [])
    ≡ folder (codes "a") ∷ updated (file (codes "a.txt") 8 (pair (codes "k") (codes "old") ∷ pair (codes "z") (codes "1") ∷ [])) ∷ []
moved_onto_file = refl

-- a copy is made anew, and was never fetched
abbrev copied : Item ℕ → Item ℕ
copied item = record item { created = pos 5; created_by = codes "you"; updated = pos 5; stat = None }

copied_below : after (edits.Copy (at (codes "a")) (at (codes "b")) ∷ [])
    ≡ folder (codes "a")
    ∷ file (codes "a.txt") 7 []
    ∷ copied (folder (codes "b"))
    ∷ file (codes "a/b.txt") 8 (pair (codes "k") (codes "old") ∷ pair (codes "z") (codes "1") ∷ [])
    ∷ folder (codes "a/c")
    ∷ file (codes "a/c/d") 9 []
    ∷ copied (file (codes "b/b.txt") 8 (pair (codes "k") (codes "old") ∷ pair (codes "z") (codes "1") ∷ []))
    ∷ copied (folder (codes "b/c"))
    ∷ copied (file (codes "b/c/d") 9 [])
    ∷ []
copied_below = refl

abbrev with : List Property → Item ℕ → Item ℕ
with props item = record item { props = props; updated = pos 5 }

-- each named key's values are replaced, and what has none of the keys is updated too
props_set_below : after (edits.SetProps (at (codes "a")) true (pair (codes "k") (codes "v1") ∷ pair (codes "k") (codes "v2") ∷ []) ∷ edits.Remove (at (codes "a/c")) ∷ [])
    ≡ with (pair (codes "k") (codes "v1") ∷ pair (codes "k") (codes "v2") ∷ []) (folder (codes "a"))
    ∷ file (codes "a.txt") 7 []
    ∷ with (pair (codes "k") (codes "v1") ∷ pair (codes "k") (codes "v2") ∷ pair (codes "z") (codes "1") ∷ []) (file (codes "a/b.txt") 8 [])
    ∷ []
props_set_below = refl

props_dropped_here : after (edits.DropProps (at (codes "a/b.txt")) false (codes "k" ∷ codes "x" ∷ []) ∷ edits.DropProps (at (codes "a")) false (codes "k" ∷ []) ∷ edits.Remove (at (codes "a/c")) ∷ [])
    ≡ updated (folder (codes "a")) ∷ file (codes "a.txt") 7 [] ∷ with (pair (codes "z") (codes "1") ∷ []) (file (codes "a/b.txt") 8 []) ∷ []
props_dropped_here = refl

-- ---- why they are refused

no_repo : refused 9 (omega arith) (omega arith) (edits.Copy (at (codes "none")) (key_of (codes "libs") (codes "a")) ∷ []) ≡ Some (refusal.NoRepo (codes "libs"))
no_repo = refl

not_found : refused 9 (omega arith) (omega arith) (edits.Remove (at (codes "a/c")) ∷ edits.Remove (at (codes "a/c/d")) ∷ []) ≡ Some (refusal.NotFound (at (codes "a/c/d")))
not_found = refl

onto_itself : refused 9 (omega arith) (omega arith) (edits.Move (at (codes "a/b.txt")) (at (codes "a/b.txt")) ∷ []) ≡ Some (refusal.IntoItself (at (codes "a/b.txt")))
onto_itself = refl

beneath_itself : refused 9 (omega arith) (omega arith) (edits.Copy (at (codes "a")) (at (codes "a/x/y")) ∷ []) ≡ Some (refusal.IntoItself (at (codes "a/x/y")))
beneath_itself = refl

beside_itself : refused 9 (omega arith) (omega arith) (edits.Move (at (codes "a")) (at (codes "ab")) ∷ []) ≡ None
beside_itself = refl

onto_a_folder : refused 9 (omega arith) (omega arith) (edits.Move (at (codes "a.txt")) (at (codes "a")) ∷ []) ≡ Some (refusal.TargetTaken (at (codes "a")))
onto_a_folder = refl

a_folder_onto_a_file : refused 9 (omega arith) (omega arith) (edits.Copy (at (codes "a/c")) (at (codes "a.txt")) ∷ []) ≡ Some (refusal.TargetTaken (at (codes "a.txt")))
a_folder_onto_a_file = refl

below_a_file : refused 9 (omega arith) (omega arith) (edits.Move (at (codes "a")) (at (codes "a.txt/x")) ∷ []) ≡ Some (refusal.FileAbove (at (codes "a.txt")))
below_a_file = refl

-- a file at the target goes, so nothing comes; a copy of three comes with one folder
full : refused 5 (omega arith) (omega arith) (edits.Copy (at (codes "a/b.txt")) (at (codes "a.txt")) ∷ []) ≡ None
full = refl

full_by_three : refused 7 (omega arith) (omega arith) (edits.Copy (at (codes "a/c")) (at (codes "x/y")) ∷ []) ≡ Some (refusal.Full Items)
full_by_three = refl

room_for_three : refused 8 (omega arith) (omega arith) (edits.Copy (at (codes "a/c")) (at (codes "x/y")) ∷ []) ≡ None
room_for_three = refl

full_by_folders : refused 6 (omega arith) (omega arith) (edits.Move (at (codes "a/c")) (at (codes "x/y/z")) ∷ []) ≡ Some (refusal.Full Items)
full_by_folders = refl

not_built : refused 9 (omega arith) (omega arith) (edits.Unbuild (codes "n") (codes "1") ∷ []) ≡ Some (refusal.NotYet None)
not_built = refl
