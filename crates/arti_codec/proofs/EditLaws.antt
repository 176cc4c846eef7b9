-- The laws of the edits and of a change.
use Rattle.std.proofs.Common.{◌≡◌, ℕ, suc, ◌≤◌, Bool, true, false, cond, eqb, List, [], ◌∷◌, ◌++◌, length, Option, Some, None, Err, refl, sym, ap, subst, ◌∙◌, append-nil}
use Rattle.std.specs.Prelude.{nat_le, IsErrOf}
use Rattle.std.specs.Int.{w32}
use Rattle.std.proofs.lemmas.Bool.{leb-true, le-leb, eqb-true}
use Rattle.std.proofs.lemmas.Option.{option_and_then_some, same_Some, none-some}
use Rattle.arti_codec.specs.declared.fault.DecodeFault.{DecodeFault}
use Rattle.arti_codec.specs.declared.fault.DecodeFault.TheVariants.{NotAChange, Memory}
use Rattle.arti_rows.specs.declared.edits.Edit.{Edit}
use Rattle.arti_rows.specs.declared.edits.Edit.TheVariants as edits
use Rattle.arti_rows.specs.declared.edits.Change.{Change}
use Rattle.arti_codec.specs.Format.{Format, IsBytes}
use Rattle.arti_codec.specs.Reading.{Gives, made}
use Rattle.arti_codec.specs.ChangeBytes.{KeepsEdit, edit_bytes, edit, edit_list, change, ChangeBytes}
use Rattle.arti_codec.specs.ReadingRows.{fields_at, edit_at, edit_list_at, change_at}
use Rattle.arti_codec.proofs.FieldLaws.{IsRead, pair_law, parts_law, where_law, listed_law, wide_32}
use Rattle.arti_codec.proofs.RowLaws.{text_law, moment_law, item_key_law, file_ref_law, item_row_law, build_name_law, build_info_law, build_row_law, definition_law, file_fields_law, set_fields_law, drop_fields_law, promote_fields_law}

-- the fields of the edit with that number stood at the front of the bytes
abbrev TookFields : ℕ → List ℕ → Edit → List ℕ → Type 0
TookFields tag bytes x rest = KeepsEdit x × (tag ∷ bytes ≡ edit_bytes x ++ rest) × IsBytes rest

-- an edit with the number k is made of its fields
made_takes : {A : Type 0} {f : Format A} {r : List ℕ → Option (A × List ℕ)} (k : ℕ) (make : A → Edit) → IsRead f r → ((a : A) → f.keeps a → KeepsEdit (make a)) → ((a : A) → edit_bytes (make a) ≡ k ∷ f.spell a)
    → (tag : ℕ) → eqb tag k ≡ true → (bytes : List ℕ) (x : Edit) (rest : List ℕ) → IsBytes bytes → made make r bytes ≡ Some (x, rest) → TookFields tag bytes x rest
made_takes {A} {f} {r} k make p keeps spells tag is bytes x rest fits e =
    option_and_then_some (λ a. Some (make a.0, a.1)) (r bytes) (x, rest) e
    (λ a read-a last.
    let t = p.takes bytes a.0 a.1 fits read-a in
    let parts : tag ∷ bytes ≡ edit_bytes (make a.0) ++ a.1 = ap (λ (n : ℕ). n ∷ bytes) (eqb-true tag k is) ∙ ap (λ (w : List ℕ). k ∷ w) t.1 ∙ ap (λ (w : List ℕ). w ++ a.1) (sym (spells a.0)) in
    subst (λ (y : Edit × List ℕ). TookFields tag bytes y.0 y.1) (same_Some (make a.0, a.1) (x, rest) last) (keeps a.0 t.0, parts, t.2))

-- one number's test, and the tests behind it
chosen : {A : Type 0} {P : Type 0} (b : Bool) (u v w : A) → (b ≡ true → u ≡ w → P) → (v ≡ w → P) → cond b u v ≡ w → P
chosen true u v w here later e = here refl e
chosen false u v w here later e = later e

fields_take : (tag : ℕ) (bytes : List ℕ) (x : Edit) (rest : List ℕ) → IsBytes bytes → fields_at tag bytes ≡ Some (x, rest) → TookFields tag bytes x rest
unfolding fields_at
fields_take tag bytes x rest fits =
    chosen (eqb tag 1) _ _ _ (λ is e. made_takes 1 (λ def. edits.Define def) definition_law (λ a h. h) (λ a. refl) tag is bytes x rest fits e) (
    chosen (eqb tag 2) _ _ _ (λ is e. made_takes 2 (λ key. edits.Folder key) item_key_law (λ a h. h) (λ a. refl) tag is bytes x rest fits e) (
    chosen (eqb tag 3) _ _ _ (λ is e. made_takes 3 (λ t. edits.File t.0 t.1.0 t.1.1.0 t.1.1.1) file_fields_law (λ a h. h) (λ a. refl) tag is bytes x rest fits e) (
    chosen (eqb tag 4) _ _ _ (λ is e. made_takes 4 (λ key. edits.Remove key) item_key_law (λ a h. h) (λ a. refl) tag is bytes x rest fits e) (
    chosen (eqb tag 5) _ _ _ (λ is e. made_takes 5 (λ t. edits.Move t.0 t.1) (pair_law item_key_law item_key_law) (λ a h. h) (λ a. refl) tag is bytes x rest fits e) (
    chosen (eqb tag 6) _ _ _ (λ is e. made_takes 6 (λ t. edits.Copy t.0 t.1) (pair_law item_key_law item_key_law) (λ a h. h) (λ a. refl) tag is bytes x rest fits e) (
    chosen (eqb tag 7) _ _ _ (λ is e. made_takes 7 (λ t. edits.SetProps t.0 t.1.0 t.1.1) set_fields_law (λ a h. h) (λ a. refl) tag is bytes x rest fits e) (
    chosen (eqb tag 8) _ _ _ (λ is e. made_takes 8 (λ t. edits.DropProps t.0 t.1.0 t.1.1) drop_fields_law (λ a h. h) (λ a. refl) tag is bytes x rest fits e) (
    chosen (eqb tag 9) _ _ _ (λ is e. made_takes 9 (λ key. edits.Downloaded key) item_key_law (λ a h. h) (λ a. refl) tag is bytes x rest fits e) (
    chosen (eqb tag 10) _ _ _ (λ is e. made_takes 10 (λ info. edits.Build info) build_info_law (λ a h. h) (λ a. refl) tag is bytes x rest fits e) (
    chosen (eqb tag 11) _ _ _ (λ is e. made_takes 11 (λ t. edits.Unbuild t.0 t.1) (pair_law build_name_law build_name_law) (λ a h. h) (λ a. refl) tag is bytes x rest fits e) (
    chosen (eqb tag 12) _ _ _ (λ is e. made_takes 12 (λ t. edits.Promote t.0 t.1.0 t.1.1) promote_fields_law (λ a h. h) (λ a. refl) tag is bytes x rest fits e) (
    chosen (eqb tag 13) _ _ _ (λ is e. made_takes 13 (λ file. edits.Kept file) file_ref_law (λ a h. h) (λ a. refl) tag is bytes x rest fits e) (
    chosen (eqb tag 14) _ _ _ (λ is e. made_takes 14 (λ row. edits.Item row) item_row_law (λ a h. h) (λ a. refl) tag is bytes x rest fits e) (
    chosen (eqb tag 15) _ _ _ (λ is e. made_takes 15 (λ row. edits.Held row) build_row_law (λ a h. h) (λ a. refl) tag is bytes x rest fits e)
    (λ e. absurd cc)))))))))))))))

made_again : {A : Type 0} {f : Format A} {r : List ℕ → Option (A × List ℕ)} (make : A → Edit) → IsRead f r → (a : A) (rest : List ℕ) → f.keeps a → made make r (f.spell a ++ rest) ≡ Some (make a, rest)
made_again make p a rest fits = rw (p.again a rest fits) refl

edit_again : (x : Edit) (rest : List ℕ) → KeepsEdit x → edit_at (edit_bytes x ++ rest) ≡ Some (x, rest)
unfolding edit_at fields_at
edit_again (edits.Define def) rest h = made_again (λ def. edits.Define def) definition_law def rest h
edit_again (edits.Folder key) rest h = made_again (λ key. edits.Folder key) item_key_law key rest h
edit_again (edits.File key g file props) rest h = made_again (λ t. edits.File t.0 t.1.0 t.1.1.0 t.1.1.1) file_fields_law (key, (g, (file, props))) rest h
edit_again (edits.Remove key) rest h = made_again (λ key. edits.Remove key) item_key_law key rest h
edit_again (edits.Move from to) rest h = made_again (λ t. edits.Move t.0 t.1) (pair_law item_key_law item_key_law) (from, to) rest h
edit_again (edits.Copy from to) rest h = made_again (λ t. edits.Copy t.0 t.1) (pair_law item_key_law item_key_law) (from, to) rest h
edit_again (edits.SetProps key deep props) rest h = made_again (λ t. edits.SetProps t.0 t.1.0 t.1.1) set_fields_law (key, (deep, props)) rest h
edit_again (edits.DropProps key deep keys) rest h = made_again (λ t. edits.DropProps t.0 t.1.0 t.1.1) drop_fields_law (key, (deep, keys)) rest h
edit_again (edits.Downloaded key) rest h = made_again (λ key. edits.Downloaded key) item_key_law key rest h
edit_again (edits.Build info) rest h = made_again (λ info. edits.Build info) build_info_law info rest h
edit_again (edits.Unbuild name build_number) rest h = made_again (λ t. edits.Unbuild t.0 t.1) (pair_law build_name_law build_name_law) (name, build_number) rest h
edit_again (edits.Promote name build_number row) rest h = made_again (λ t. edits.Promote t.0 t.1.0 t.1.1) promote_fields_law (name, (build_number, row)) rest h
edit_again (edits.Kept file) rest h = made_again (λ file. edits.Kept file) file_ref_law file rest h
edit_again (edits.Item row) rest h = made_again (λ row. edits.Item row) item_row_law row rest h
edit_again (edits.Held row) rest h = made_again (λ row. edits.Held row) build_row_law row rest h

edit_take : (bytes : List ℕ) (x : Edit) (rest : List ℕ) → IsBytes bytes → edit_at bytes ≡ Some (x, rest) → KeepsEdit x × (bytes ≡ edit_bytes x ++ rest) × IsBytes rest
unfolding edit_at
edit_take [] x rest fits e = absurd cc
edit_take (tag ∷ bytes) x rest fits e = fields_take tag bytes x rest (λ i. fits (suc i)) e

pub edit_law : IsRead edit edit_at
unfolding edit
edit_law = record { takes = edit_take; again = edit_again }

pub edit_list_law : IsRead edit_list edit_list_at
unfolding edit_list edit_list_at
edit_list_law = where_law (λ es. 1 ≤ length es) (λ es. nat_le 1 (length es)) (λ es e. leb-true 1 (length es) e) (λ es h. le-leb 1 (length es) h) (listed_law w32 wide_32 edit_law)

pub change_law : IsRead change change_at
unfolding change change_at
change_law = parts_law (λ c. (c.moment, (c.user, c.edits))) (λ t. record { moment = t.0; user = t.1.0; edits = t.1.1 }) (λ a. refl) (λ b. refl) (pair_law moment_law (pair_law text_law edit_list_law))

-- what is read to the end is a change's bytes
pub change_is : (bytes : List ℕ) (c : Change) → IsBytes bytes → change_at bytes ≡ Some (c, []) → ChangeBytes bytes c
change_is bytes c fits e =
    let t = change_law.takes bytes c [] fits e in
    (t.0, t.1 ∙ append-nil (change.spell c))

-- a change's bytes are read to the end
pub change_read : (bytes : List ℕ) (c : Change) → ChangeBytes bytes c → change_at bytes ≡ Some (c, [])
change_read bytes c h = ap change_at (h.1 ∙ sym (append-nil (change.spell c))) ∙ change_law.again c [] h.0

pub one_change : (bytes : List ℕ) (c d : Change) → ChangeBytes bytes c → ChangeBytes bytes d → c ≡ d
one_change bytes c d p q = ap (λ (y : Change × List ℕ). y.0) (same_Some (c, []) (d, []) (sym (change_read bytes c p) ∙ change_read bytes d q))

-- what isn't read has no change
pub never : (bytes : List ℕ) → change_at bytes ≡ None → (c : Change) → ChangeBytes bytes c → ⊥
never bytes e c h = none-some (c, []) (sym e ∙ change_read bytes c h)

-- nor has what is followed by more bytes
pub never_more : (bytes : List ℕ) (c : Change) (rest : List ℕ) → change_at bytes ≡ Some (c, rest) → (length rest ≡ 0 → ⊥) → (d : Change) → ChangeBytes bytes d → ⊥
never_more bytes c rest e more d h = more (ap (λ (y : Change × List ℕ). length y.1) (same_Some (c, rest) (d, []) (sym e ∙ change_read bytes d h)))

-- a fault of reading is that of the bytes
pub refused : (bytes : List ℕ) (e : DecodeFault) (rest : List ℕ) → Gives {A = Change} (Err e) (change_at bytes) rest → IsErrOf {T = Change} (Err e) NotAChange → (c : Change) → ChangeBytes bytes c → ⊥
refused bytes NotAChange rest h is = never bytes h
refused bytes Memory rest h is = absurd cc
