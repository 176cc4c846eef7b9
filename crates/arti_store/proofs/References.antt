-- References of kept contents.
use Rattle.std.proofs.Common.{◌≡◌, inl, inr, ⊎_elim, ℕ, ◌+◌, ◌<◌, zero, suc, Bool, true, false, cond, List, [], ◌∷◌, ◌++◌, length, get_or, drop, refl, sym, ◌∙◌, ap, subst, arith, append_assoc}
use Rattle.std.specs.Prelude.{All, Contains, ◌≢◌, ◌↔◌}
use Rattle.std.proofs.lemmas.List.{append-nil, drop_more}
use Rattle.std.proofs.lemmas.List.Elements.{All-nil, All-cons, All-head, All-tail, All-push, Contains-append_left, Contains-push, Contains-push_cases, Contains-get_or, Contains-append_right, Contains-append_cases}
use Rattle.std.proofs.lemmas.List.Quantifiers.{all_pairs_push}
use Rattle.arti_rows.specs.declared.rows.FileRef.{FileRef}
use Rattle.arti_rows.specs.declared.edits.Edit.{Edit}
use Rattle.arti_rows.specs.declared.edits.Change.{Change}
use Rattle.arti_blobs.specs.Contents.{end_of, Keeps}
use Rattle.arti_store.specs.Items.{file_in}
use Rattle.arti_store.specs.Changes.{edit_references, references_of, references}
use Rattle.arti_store.specs.Store.{AreDistinct}

-- the kept ones from before stand at the front
pub keeps_front : (files kept all : List FileRef) → Keeps kept files all → (more : List FileRef) × (all ≡ kept ++ more)
keeps_front [] kept all keeps = ([], keeps ∙ sym (append-nil kept))
keeps_front (file ∷ files) kept all (inl old) = keeps_front files kept all old.1
keeps_front (file ∷ files) kept all (inr new) =
    let rest = keeps_front files (kept ++ file ∷ []) all new.2 in
    (file ∷ rest.0, rest.1 ∙ append_assoc kept (file ∷ []) rest.0)

pub keeps_old : (files kept all : List FileRef) (file : FileRef) → Keeps kept files all → Contains kept file → Contains all file
keeps_old files kept all file keeps is =
    let front = keeps_front files kept all keeps in
    subst (λ (l : List FileRef). Contains l file) (sym front.1) (Contains-append_left kept front.0 file is)

-- each of the references is kept
pub keeps_each : (files kept all : List FileRef) → Keeps kept files all → All (Contains all) files
keeps_each [] kept all keeps = All-nil (Contains all)
keeps_each (file ∷ files) kept all (inl old) =
    All-cons (Contains all) file files (keeps_old files kept all file old.1 old.0) (keeps_each files kept all old.1)
keeps_each (file ∷ files) kept all (inr new) =
    All-cons (Contains all) file files (keeps_old files (kept ++ file ∷ []) all file new.2 (Contains-push kept file)) (keeps_each files (kept ++ file ∷ []) all new.2)

-- one after the other
pub keeps_then : (files more kept mid all : List FileRef) → Keeps kept files mid → Keeps mid more all → Keeps kept (files ++ more) all
keeps_then [] more kept mid all keeps then = subst (λ (l : List FileRef). Keeps l more all) keeps then
keeps_then (file ∷ files) more kept mid all (inl old) then = inl (old.0, keeps_then files more kept mid all old.1 then)
keeps_then (file ∷ files) more kept mid all (inr new) then = inr (new.0, new.1, keeps_then files more (kept ++ file ∷ []) mid all new.2 then)

-- all of them are kept already
pub keeps_none : (files kept : List FileRef) → All (Contains kept) files → Keeps kept files kept
keeps_none [] kept all = refl
keeps_none (file ∷ files) kept all = inl (All-head (Contains kept) file files all, keeps_none files kept (All-tail (Contains kept) file files all))

-- one of them is new
pub keeps_one : (files kept : List FileRef) (new : FileRef) → All (Contains (kept ++ new ∷ [])) files → Contains files new → (Contains kept new → ⊥) → new.place ≡ end_of kept → Keeps kept files (kept ++ new ∷ [])
keeps_one [] kept new all named is_not at = absurd (omega (arith, named.1))
keeps_one (file ∷ files) kept new all named is_not at =
    ⊎_elim
    (λ old. inl (old, keeps_one files kept new (All-tail (Contains (kept ++ new ∷ [])) file files all) (later old named) is_not at))
    (λ same.
    let here : Keeps kept (new ∷ files) (kept ++ new ∷ []) = inr (is_not, at, keeps_none files (kept ++ new ∷ []) (All-tail (Contains (kept ++ new ∷ [])) file files all)) in
    subst (λ (f : FileRef). Keeps kept (f ∷ files) (kept ++ new ∷ [])) same here)
    (Contains-push_cases kept new file (All-head (Contains (kept ++ new ∷ [])) file files all))
  where
    later : Contains kept file → Contains (file ∷ files) new → Contains files new
    later old (zero, lt, is) = absurd (is_not (subst (λ (f : FileRef). Contains kept f) is old))
    later old (suc k, lt, is) = (k, omega arith, is)

-- what one edit and one change more name
pub references-append : (changes others : List Change) → references (changes ++ others) ≡ references changes ++ references others
references-append [] others = refl
references-append (change ∷ changes) others =
    ap (λ l. references_of change.edits ++ l) (references-append changes others) ∙ sym (append_assoc (references_of change.edits) (references changes) (references others))

pub references-push : (changes : List Change) (change : Change) → references (changes ++ change ∷ []) ≡ references changes ++ references_of change.edits
references-push changes change = references-append changes (change ∷ []) ∙ ap (λ l. references changes ++ l) (append-nil (references_of change.edits))

-- ---- a content that is no kept pair

module _ (bytes : List ℕ) (kept : List FileRef) (file : FileRef) (new : All (λ old. file_in bytes old ≢ file_in bytes file) kept) where
  pub new_not_kept : Contains kept file → ⊥
  new_not_kept is = new is.0 file is.1 (ap (file_in bytes) is.2)

  pub distinct_push : AreDistinct bytes kept → AreDistinct bytes (kept ++ file ∷ [])
  distinct_push distinct = all_pairs_push (λ a b. file_in bytes a ≢ file_in bytes b) kept file distinct new

-- a look for one of the references, an edit further
pub look_on : (es : List Edit) (i : ℕ) (edit : Edit) (wanted : FileRef) → i < length es → get_or es i edit ≡ edit → (Contains (edit_references edit) wanted → ⊥)
    → (Contains (references_of (drop i es)) wanted ↔ Contains (references_of es) wanted) → (Contains (references_of (drop (i + 1) es)) wanted ↔ Contains (references_of es) wanted)
look_on es i edit wanted lt is none so_far =
    let step : drop i es ≡ edit ∷ drop (i + 1) es = drop_more es i edit lt ∙ ap (λ e. e ∷ drop (i + 1) es) is in
    let here = edit_references edit in
    let rest = references_of (drop (i + 1) es) in (
      λ x. so_far.0 (subst (λ (l : List Edit). Contains (references_of l) wanted) (sym step) (Contains-append_right here rest wanted x)),
      λ x. ⊎_elim (λ a. absurd (none a)) (λ b. b) (Contains-append_cases here rest wanted (subst (λ (l : List Edit). Contains (references_of l) wanted) step (so_far.1 x))),
    )

-- references are kept in one way
pub keeps_once : (files kept a b : List FileRef) → Keeps kept files a → Keeps kept files b → a ≡ b
keeps_once [] kept a b x y = x ∙ sym y
keeps_once (file ∷ files) kept a b (inl x) (inl y) = keeps_once files kept a b x.1 y.1
keeps_once (file ∷ files) kept a b (inl x) (inr y) = absurd (y.0 x.0)
keeps_once (file ∷ files) kept a b (inr x) (inl y) = absurd (x.0 y.0)
keeps_once (file ∷ files) kept a b (inr x) (inr y) = keeps_once files (kept ++ file ∷ []) a b x.2 y.2
