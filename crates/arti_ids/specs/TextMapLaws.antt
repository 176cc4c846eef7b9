-- A map under texts in which the value of one text was changed.
use Rattle.std.proofs.Common.{◌≡◌, ℕ, Bool, true, false, cond, List, Option, Some, None, refl, sym, ap, ◌∙◌, subst, ◌⊎◌, inl, inr, ⊎_elim}
use Rattle.std.proofs.Common.{[], ◌∷◌, length, arith, suc}
use Rattle.std.proofs.lemmas.Bool.Decides.{nat_tests}
use Rattle.std.specs.BTreeMap.{BTreeMap, UpdatesBy, get_by_text, is_at}
use Rattle.std.specs.Map.{lookup}
use Rattle.std.specs.Cmp.Lexicographic.{slice_cmp}
use Rattle.std.specs.Ordering.{nat_cmp}
use Rattle.std.specs.String.{string_cmp}
use Rattle.std.proofs.lemmas.Map.Text.{btree_map_updates_text}
use Rattle.std.specs.Prelude.{◌==◌, String, string_bytes, ◌&&◌, Result, Ok, Err, OnOk}
use Rattle.std.specs.Str.{bytes_eq}
use Rattle.std.proofs.lemmas.Slice.Eq.{bytes_eq-Decides}

-- the same text, or another
pub same_text : (a b : List ℕ) → ((bytes_eq a b ≡ true) × (a ≡ b)) ⊎ (bytes_eq a b ≡ false)
same_text a b = by (bytes_eq a b) refl
  where
    by : (x : Bool) → bytes_eq a b ≡ x → ((bytes_eq a b ≡ true) × (a ≡ b)) ⊎ (bytes_eq a b ≡ false)
    by true e = inl (e, (bytes_eq-Decides a b).0 e)
    by false e = inr e

module _ {M : Type 0} (f g : List ℕ → Option M) (bs : List ℕ) (w : Option M) (u : (t : List ℕ) → g t ≡ cond (bytes_eq bs t) w (f t)) where
  here : (t : List ℕ) → bytes_eq bs t ≡ true → g t ≡ w
  here t e = u t ∙ ap (λ b. cond b w (f t)) e

  there : (t : List ℕ) → bytes_eq bs t ≡ false → g t ≡ f t
  there t e = u t ∙ ap (λ b. cond b w (f t)) e

  -- what is read of it is changed there
  pub after : {A : Type 0} (F : Option M → A) (op : A → A) → F w ≡ op (F (f bs)) → (t : List ℕ) → F (g t) ≡ cond (bytes_eq bs t) (op (F (f t))) (F (f t))
  after F op is t =
      ⊎_elim
      (λ (s : (bytes_eq bs t ≡ true) × (bs ≡ t)). ap F (here t s.0) ∙ is ∙ ap (λ (x : List ℕ). op (F (f x))) s.1 ∙ sym (ap (λ b. cond b (op (F (f t))) (F (f t))) s.0))
      (λ (e : bytes_eq bs t ≡ false). ap F (there t e) ∙ sym (ap (λ b. cond b (op (F (f t))) (F (f t))) e))
      (same_text bs t)

  -- it reads the same
  pub same : {A : Type 0} (F : Option M → A) → F w ≡ F (f bs) → (t : List ℕ) → F (g t) ≡ F (f t)
  same F is t =
      ⊎_elim
      (λ (s : (bytes_eq bs t ≡ true) × (bs ≡ t)). ap F (here t s.0) ∙ is ∙ ap (λ (x : List ℕ). F (f x)) s.1)
      (λ (e : bytes_eq bs t ≡ false). ap F (there t e))
      (same_text bs t)

  -- what held before holds
  pub kept : (P : Option M → Type 0) → (P (f bs) → P w) → (t : List ℕ) → P (f t) → P (g t)
  kept P keeps t was =
      ⊎_elim
      (λ (s : (bytes_eq bs t ≡ true) × (bs ≡ t)). subst P (sym (here t s.0)) (keeps (subst (λ (x : List ℕ). P (f x)) (sym s.1) was)))
      (λ (e : bytes_eq bs t ≡ false). subst P (sym (there t e)) was)
      (same_text bs t)

pub cond_both : {A : Type 0} (a b : Bool) (x y : A) → cond a (cond b x y) y ≡ cond (a && b) x y
cond_both true b x y = refl
cond_both false b x y = refl

pub on_ok : {T E : Type 0} (r : Result T E) (P Q : Type 0) → (P → Q) → OnOk r P → OnOk r Q
on_ok (Ok x) P Q f p = f p
on_ok (Err e) P Q f p = tt

-- the text's value after an insertion where none was found
pub inserted : {Y X : Type 0} (m between n : BTreeMap (String Y) X) (key : String Y) (bs : List ℕ) (w : X) → between ≡ m → UpdatesBy string_cmp (string_cmp key) between n (Some w) → string_bytes key ≡ bs
    → (t : List ℕ) → get_by_text n t ≡ cond (bytes_eq bs t) (Some w) (get_by_text m t)
inserted m between n key bs w same updates is t =
    btree_map_updates_text (string_bytes key) between n (Some w) updates t
    ∙ ap (λ (es : BTreeMap _ _). cond (bytes_eq (string_bytes key) t) (Some w) (get_by_text es t)) same
    ∙ ap (λ (b : List ℕ). cond (bytes_eq b t) (Some w) (get_by_text m t)) is

not_none : (n : ℕ) → (suc n == 0) ≡ true → ⊥
not_none n e = grind (arith, nat_tests)

pub nil_of : {X : Type 0} (xs : List X) → (length xs == 0) ≡ true → xs ≡ []
nil_of [] e = refl
nil_of (x ∷ xs) e = absurd (not_none (length xs) e)

pub no_entries : {Y X : Type 0} (m : BTreeMap (String Y) X) (t : List ℕ) → m.entries ≡ [] → get_by_text m t ≡ None
no_entries m t e = ap (λ (es : List _). lookup (is_at (λ k. slice_cmp nat_cmp t (string_bytes k))) es) e
