-- A walk over pairs, one more pair at a time.
use Rattle.std.proofs.Common.{◌≡◌, ℕ, ◌+◌, ◌<◌, Bool, true, false, cond, List, [], length, get_or, take, refl, sym, ap, ◌∙◌, ◌⊎◌, inl, inr, ⊎_elim}
use Rattle.std.specs.Prelude.{◌&&◌, ◌||◌}
use Rattle.std.specs.List.{list_any}
use Rattle.std.specs.Str.{bytes_eq}
use Rattle.std.proofs.lemmas.Slice.Eq.{bytes_eq-Decides}
use Rattle.std.proofs.lemmas.List.Folds.{list_any_at, list_any_more}
use Rattle.std.proofs.lemmas.Bool.{and_parts, and_from, or_cases, false_from_ne_true, false≢true}
use Rattle.std.specs.List.{HoldsAt}
use Rattle.std.proofs.lemmas.Map.Text.{is_eq-slice_cmp}
use Rattle.std.specs.Cmp.Lexicographic.{slice_cmp}
use Rattle.std.specs.Ordering.{nat_cmp, ordering_then, is_eq}
use Rattle.std.specs.declared.cmp.Ordering.{Ordering}
use Rattle.std.specs.declared.cmp.Ordering.TheVariants.{Less, Equal, Greater}
use Rattle.arti_rows.specs.PropTexts.{property_cmp}
use Rattle.arti_rows.specs.declared.rows.Property.{Property}
use Rattle.arti_ids.specs.Ids.{with_id, without_id}
use Rattle.arti_props.specs.Rows.{is_pair}
use Rattle.arti_ids.specs.IdLaws.{with_without}

abbrev pub blank : Property
blank = record { key = []; value = [] }

same_bytes : (a : List ℕ) → bytes_eq a a ≡ true
same_bytes a = (bytes_eq-Decides a a).1 refl

or-false : (b : Bool) → (b || false) ≡ b
or-false true = refl
or-false false = refl

once_more : (op : List ℕ → List ℕ) (twice : (l : List ℕ) → op (op l) ≡ op l) (u b : Bool) (start : List ℕ) → cond b (op (cond u (op start) start)) (cond u (op start) start) ≡ cond (u || b) (op start) start
once_more op twice true true start = twice start
once_more op twice true false start = refl
once_more op twice false true start = refl
once_more op twice false false start = refl

module _ (pairs : List Property) (i : ℕ) (below : i < length pairs) (key value : List ℕ) (key_is : key ≡ (get_or pairs i blank).key) (value_is : value ≡ (get_or pairs i blank).value) where
  this : (k v : List ℕ) → is_pair k v (get_or pairs i blank) ≡ (bytes_eq key k && bytes_eq value v)
  this k v = ap (λ (x : List ℕ). bytes_eq x k && bytes_eq (get_or pairs i blank).value v) (sym key_is) ∙ ap (λ (x : List ℕ). bytes_eq key k && bytes_eq x v) (sym value_is)

  pub any_here : list_any (is_pair key value) pairs ≡ true
  any_here = list_any_at (is_pair key value) pairs i blank below (this key value ∙ ap (λ b. b && bytes_eq value value) (same_bytes key) ∙ same_bytes value)

  any_more : (k v : List ℕ) → list_any (is_pair k v) (take (i + 1) pairs) ≡ (list_any (is_pair k v) (take i pairs) || (bytes_eq key k && bytes_eq value v))
  any_more k v = list_any_more (is_pair k v) pairs i blank below ∙ ap (λ b. list_any (is_pair k v) (take i pairs) || b) (this k v)

  -- it was among the earlier ones, or is this one
  pub any_cases : (k v : List ℕ) → list_any (is_pair k v) (take (i + 1) pairs) ≡ true → (list_any (is_pair k v) (take i pairs) ≡ true) ⊎ ((key ≡ k) × (value ≡ v))
  any_cases k v has =
      ⊎_elim
      (λ (a : list_any (is_pair k v) (take i pairs) ≡ true). inl a)
      (λ (b : (bytes_eq key k && bytes_eq value v) ≡ true). let both = and_parts (bytes_eq key k) (bytes_eq value v) b in inr ((bytes_eq-Decides key k).0 both.0, (bytes_eq-Decides value v).0 both.1))
      (or_cases (list_any (is_pair k v) (take i pairs)) (bytes_eq key k && bytes_eq value v) (sym (any_more k v) ∙ has))

  -- a list after this pair too
  pub step : (op : List ℕ → List ℕ) → ((l : List ℕ) → op (op l) ≡ op l) → (k v start now new : List ℕ) → now ≡ cond (list_any (is_pair k v) (take i pairs)) (op start) start → new ≡ cond (bytes_eq key k && bytes_eq value v) (op now) now
      → new ≡ cond (list_any (is_pair k v) (take (i + 1) pairs)) (op start) start
  step op twice k v start now new was is =
      is
      ∙ ap (λ (l : List ℕ). cond (bytes_eq key k && bytes_eq value v) (op l) l) was
      ∙ once_more op twice (list_any (is_pair k v) (take i pairs)) (bytes_eq key k && bytes_eq value v) start
      ∙ ap (λ b. cond b (op start) start) (sym (any_more k v))

  -- a pair that stays is passed over, and says nothing of the others
  pub skip : (stay : List Property) → list_any (is_pair key value) stay ≡ true → (op : List ℕ → List ℕ) (k v start now : List ℕ) → list_any (is_pair k v) stay ≡ false → now ≡ cond (list_any (is_pair k v) (take i pairs)) (op start) start
      → now ≡ cond (list_any (is_pair k v) (take (i + 1) pairs)) (op start) start
  skip stay stays op k v start now none was =
      let other : (bytes_eq key k && bytes_eq value v) ≡ false =
      false_from_ne_true (bytes_eq key k && bytes_eq value v) (λ e.
      let both = and_parts (bytes_eq key k) (bytes_eq value v) e in
      let key_same : key ≡ k = (bytes_eq-Decides key k).0 both.0 in
      let value_same : value ≡ v = (bytes_eq-Decides value v).0 both.1 in
      false≢true (sym none ∙ sym (ap (λ (x : List ℕ). list_any (is_pair x value) stay) key_same ∙ ap (λ (x : List ℕ). list_any (is_pair k x) stay) value_same) ∙ stays)) in
      was ∙ ap (λ b. cond b (op start) start) (sym (any_more k v ∙ ap (λ b. list_any (is_pair k v) (take i pairs) || b) other ∙ or-false (list_any (is_pair k v) (take i pairs))))

-- an id that is taken away comes back
pub back : (id : ℕ) (b : Bool) (start now new : List ℕ) → with_id id now ≡ with_id id start → new ≡ cond b (without_id id now) now → with_id id new ≡ with_id id start
back id true start now new was is = ap (with_id id) is ∙ with_without id now ∙ was
back id false start now new was is = ap (with_id id) is ∙ was

then_equal : (a b : Ordering) → ordering_then a b ≡ Equal → (a ≡ Equal) × (b ≡ Equal)
then_equal Less b e = cc
then_equal Equal b e = (refl, e)
then_equal Greater b e = cc

tied : (p q : Property) → property_cmp p q ≡ Equal → is_pair q.key q.value p ≡ true
tied p q e =
    let both = then_equal (slice_cmp nat_cmp p.key q.key) (slice_cmp nat_cmp p.value q.value) e in
    and_from (bytes_eq p.key q.key) (bytes_eq p.value q.value) (sym (is_eq-slice_cmp p.key q.key) ∙ ap is_eq both.0) (sym (is_eq-slice_cmp p.value q.value) ∙ ap is_eq both.1)

-- a pair with which one ties is among them
pub found : (pairs : List Property) (p : Property) (i : ℕ) → i < length pairs → HoldsAt (λ y. property_cmp y p ≡ Equal) pairs i → list_any (is_pair p.key p.value) pairs ≡ true
found pairs p i below at = list_any_at (is_pair p.key p.value) pairs i blank below (tied (get_or pairs i blank) p (at blank))
