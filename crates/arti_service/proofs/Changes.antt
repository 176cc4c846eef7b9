-- The changes of deploys and fetches: how many bytes they have, and that they aren't refused.
use Rattle.std.proofs.Common.{◌≡◌, ℕ, suc, ◌+◌, ℤ, Bool, true, false, cond, List, [], ◌∷◌, ◌++◌, length, refl, sym, ap, ◌∙◌, length-append}
use Rattle.std.specs.Prelude.{Option, Some, None, is_some, not, nat_le, ◌==◌, ◌&&◌, ◌||◌, option_and_then}
use Rattle.std.proofs.lemmas.List.{length-map}
use Rattle.std.specs.Int.{w32, w64}
use Rattle.std.proofs.lemmas.Bool.{false≢true}
use Rattle.arti_rows.specs.Key.{Key}
use Rattle.arti_rows.specs.declared.limits.Limits.{Limits}
use Rattle.arti_rows.specs.declared.rows.Digests.{Digests}
use Rattle.arti_rows.specs.declared.rows.FileRef.{FileRef}
use Rattle.arti_rows.specs.declared.rows.Given.{Given}
use Rattle.arti_rows.specs.declared.refusal.Refusal.{Refusal}
use Rattle.arti_rows.specs.declared.refusal.Refusal.TheVariants.{NoRepo, FolderHere, NotFound, Full}
use Rattle.arti_rows.specs.declared.refusal.Which.TheVariants.{Items}
use Rattle.arti_rows.specs.declared.edits.Change.{Change}
use Rattle.arti_rows.specs.declared.edits.Edit.TheVariants as edits
use Rattle.arti_codec.specs.Format.{number}
use Rattle.arti_codec.specs.ChangeBytes as codec
use Rattle.arti_rows.specs.declared.rows.ItemRow.{ItemRow}
use Rattle.arti_model.specs.Store.{Item, File, find_item, has_file, same_key, local_key}
use Rattle.arti_model.specs.Apply.{is_local, refused_if, refused_below, file_above, has_folder, added_with, passes_limit, first_refusal, edits_refusal}
use Rattle.arti_model.specs.Mapped.{item_mapped}
use Rattle.arti_model.specs.Laws.{has_file_mapped, file_above_mapped, has_folder_mapped, added_mapped}
use Rattle.arti_model.specs.Decide.{is_barred, file_at}
use Rattle.arti_store.specs.Items.{file_in, items_of, items_in}
use Rattle.arti_service.proofs.Thin.{same_texts}

-- ---- a reference has as many bytes wherever it points

eight : (n : ℕ) → length ((number w64).spell n) ≡ 8
unfolding number
eight n = refl

-- the bytes behind the place
abbrev tail_of : ℕ → Digests → List ℕ
tail_of len digests = (number w64).spell len ++ codec.digests.spell digests

ref_spelled : (f : FileRef) → codec.file_ref.spell f ≡ (number w64).spell f.place ++ tail_of f.len f.digests
unfolding codec.file_ref
ref_spelled f = refl

ref_length : (f g : FileRef) → f.len ≡ g.len → f.digests ≡ g.digests → length (codec.file_ref.spell f) ≡ length (codec.file_ref.spell g)
ref_length f g len digests =
    ap length (ref_spelled f) ∙ length-append ((number w64).spell f.place) (tail_of f.len f.digests)
    ∙ (λ i. (eight f.place ∙ sym (eight g.place)) i + length (tail_of (len i) (digests i)))
    ∙ sym (length-append ((number w64).spell g.place) (tail_of g.len g.digests)) ∙ sym (ap length (ref_spelled g))

len_behind : (a x y : List ℕ) → length x ≡ length y → length (a ++ x) ≡ length (a ++ y)
len_behind a x y e = length-append a x ∙ ap (λ (n : ℕ). length a + n) e ∙ sym (length-append a y)

len_before : (x y p : List ℕ) → length x ≡ length y → length (x ++ p) ≡ length (y ++ p)
len_before x y p e = length-append x p ∙ ap (λ (n : ℕ). n + length p) e ∙ sym (length-append y p)

module _ (moment : ℤ) (user : List ℕ) (key : Key) (given : Given) where
  abbrev naming : FileRef → Change
  naming f = record { moment = moment; user = user; edits = edits.File key given f [] ∷ [] }

  -- the edit's bytes
  abbrev fields : FileRef → List ℕ
  fields f = 3 ∷ (codec.item_key.spell key ++ (codec.given.spell given ++ (codec.file_ref.spell f ++ (codec.properties 1024).spell [])))

  spelled : (f : FileRef) → codec.change.spell (naming f) ≡ codec.moment.spell moment ++ (codec.text.spell user ++ ((number w32).spell 1 ++ (fields f ++ [])))
  unfolding codec.change codec.edit_list codec.edit codec.file_fields
  spelled f = refl

  fields_length : (f g : FileRef) → length (codec.file_ref.spell f) ≡ length (codec.file_ref.spell g) → length (fields f) ≡ length (fields g)
  fields_length f g e =
      let last = (codec.properties 1024).spell [] in
      let x = codec.file_ref.spell f ++ last in
      let y = codec.file_ref.spell g ++ last in
      ap suc (len_behind (codec.item_key.spell key) (codec.given.spell given ++ x) (codec.given.spell given ++ y)
      (len_behind (codec.given.spell given) x y (len_before (codec.file_ref.spell f) (codec.file_ref.spell g) last e)))

  -- a deploy's change has as many bytes wherever its content is kept
  pub deploy_length : (f g : FileRef) → f.len ≡ g.len → f.digests ≡ g.digests → length (codec.change.spell (naming f)) ≡ length (codec.change.spell (naming g))
  deploy_length f g len digests =
      let count = (number w32).spell 1 in
      let x = fields f ++ [] in
      let y = fields g ++ [] in
      ap length (spelled f)
      ∙ len_behind (codec.moment.spell moment) (codec.text.spell user ++ (count ++ x)) (codec.text.spell user ++ (count ++ y))
      (len_behind (codec.text.spell user) (count ++ x) (count ++ y) (len_behind count x y (len_before (fields f) (fields g) [] (fields_length f g (ref_length f g len digests)))))
      ∙ sym (ap length (spelled g))

-- ---- they aren't refused

none_is : (o : Option Key) (b : Bool) → (is_some o || b) ≡ false → o ≡ None
none_is None b e = refl
none_is (Some k) b e = absurd (false≢true (sym e))

second_false : (a b : Bool) → (a || b) ≡ false → b ≡ false
second_false true b e = absurd (false≢true (sym e))
second_false false b e = e

local_is : (key : Key) → key.repo ≡ local_key → is_local key ≡ true
local_is key e = (same_texts key.repo local_key).1 e

abbrev by_four : Key → Bool → Option Key → Bool → Bool → Option Refusal
by_four key b1 o b2 b3 = first_refusal (refused_if (not b1) (NoRepo key.repo) (refused_below o (refused_if b2 (FolderHere key) (refused_if b3 (Full Items) None)))) None

pub deploy_accepted : (limits : Limits) (file_of : FileRef → FileRef) (moment : ℤ) (user : List ℕ) (key : Key) (given : Given) (file : FileRef) (items : List (Item FileRef)) → key.repo ≡ local_key
    → is_barred items key ≡ false → passes_limit limits items (added_with items key) ≡ false
    → edits_refusal limits file_of moment user (edits.File key given file [] ∷ []) items ≡ None
deploy_accepted limits file_of moment user key given file items local free room =
    let none : file_above items key ≡ None = none_is (file_above items key) (has_folder items key) free in
    let no_folder : has_folder items key ≡ false = second_false (is_some (file_above items key)) (has_folder items key) free in
    ap (λ (b : Bool). by_four key b (file_above items key) (has_folder items key) (passes_limit limits items (added_with items key))) (local_is key local)
    ∙ ap (λ (o : Option Key). by_four key true o (has_folder items key) (passes_limit limits items (added_with items key))) none
    ∙ ap (λ (b : Bool). by_four key true None b (passes_limit limits items (added_with items key))) no_folder
    ∙ ap (λ (b : Bool). by_four key true None false b) room

found_file : (items : List (Item File)) (key : Key) (file : File) → file_at items key ≡ Some file → has_file items key ≡ true
found_file [] key file e = absurd (cc e)
found_file (x ∷ items) key file e = by (same_key x.key key) refl (found_file items key file)
  where
    some_file : (o : Option File) → o ≡ Some file → is_some o ≡ true
    some_file None e = absurd (cc e)
    some_file (Some f) e = refl

    by : (b : Bool) → same_key x.key key ≡ b → (file_at items key ≡ Some file → has_file items key ≡ true) → has_file (x ∷ items) key ≡ true
    by true same rest =
        let here : x.file ≡ Some file = ap (λ (b : Bool). option_and_then (λ (item : Item File). item.file) (cond b (Some x) (find_item items key))) (sym same) ∙ e in
        ap (λ (b : Bool). (b && is_some x.file) || has_file items key) same ∙ ap (λ (b : Bool). b || has_file items key) (some_file x.file here)
    by false other rest =
        let later : file_at items key ≡ Some file = ap (λ (b : Bool). option_and_then (λ (item : Item File). item.file) (cond b (Some x) (find_item items key))) (sym other) ∙ e in
        ap (λ (b : Bool). (b && is_some x.file) || has_file items key) other ∙ rest later

pub fetch_accepted : (limits : Limits) (file_of : FileRef → FileRef) (moment : ℤ) (user : List ℕ) (key : Key) (rows : List ItemRow) (file : File) → key.repo ≡ local_key → file_at (items_in [] rows) key ≡ Some file
    → edits_refusal limits file_of moment user (edits.Downloaded key ∷ []) (items_of rows) ≡ None
fetch_accepted limits file_of moment user key rows file local found =
    let items = items_of rows in
    let is_there : has_file items key ≡ true = sym (has_file_mapped (file_in []) items key) ∙ found_file (items_in [] rows) key file found in
    ap (λ (b : Bool). first_refusal (refused_if (not b) (NoRepo key.repo) (refused_if (not (has_file items key)) (NotFound key) None)) None) (local_is key local)
    ∙ ap (λ (b : Bool). first_refusal (refused_if false (NoRepo key.repo) (refused_if (not b) (NotFound key) None)) None) is_there

-- ---- what rows tell alone

module _ (bytes : List ℕ) (rows : List ItemRow) (key : Key) where
  abbrev seen : FileRef → File
  seen = file_in bytes

  pub barred_seen : is_barred (items_in bytes rows) key ≡ is_barred (items_of rows) key
  barred_seen = λ i. is_some (file_above_mapped seen (items_of rows) key i) || has_folder_mapped seen (items_of rows) key i

  pub room_seen : (limits : Limits) → passes_limit limits (items_in bytes rows) (added_with (items_in bytes rows) key) ≡ passes_limit limits (items_of rows) (added_with (items_of rows) key)
  room_seen limits = λ i.
      not (added_mapped seen (items_of rows) key i == 0) && not (nat_le (length-map (items_of rows) (item_mapped seen) i + added_mapped seen (items_of rows) key i) limits.items)
