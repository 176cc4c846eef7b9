-- What is computed by going through members, so many levels deep: where ranks fall, as many levels as there are definitions
-- are enough.
use Rattle.std.proofs.Common.{◌≡◌, ℕ, zero, suc, ◌<◌, ◌≤◌, Bool, true, false, List, [], ◌∷◌, length, refl, sym, ap, ◌∙◌, arith, Option, Some, None}
use Rattle.std.specs.Prelude.{filter, not}
use Rattle.arti_rows.specs.declared.rows.RepoDef.{RepoDef}
use Rattle.arti_repos.specs.Definitions.{has_key, definition}
use Rattle.arti_repos.proofs.Texts.{eq_text, find_kept, shorter}

not_by : (b : Bool) → (b ≡ true → ⊥) → not b ≡ true
not_by true h = absurd (h refl)
not_by false h = refl

option_by : {X : Type 0} {G : Type 0} (o : Option X) → (o ≡ None → G) → ((x : X) → o ≡ Some x → G) → G
option_by None f g = f refl
option_by (Some x) f g = g x refl

module _ {A : Type 0} (step : (List ℕ → A) → List ℕ → A) (bottom : List ℕ → A) (deep : ℕ → List ℕ → A) (defs : List RepoDef) (rank : List ℕ → ℕ)
    (none_deep : (k : List ℕ) → deep zero k ≡ bottom k) (one_deeper : (n : ℕ) (k : List ℕ) → deep (suc n) k ≡ step (deep n) k)
    (local : (k : List ℕ) (f g : List ℕ → A) → ((m : List ℕ) → rank m < rank k → f m ≡ g m) → step f k ≡ step g k)
    (absent : (k : List ℕ) → definition defs k ≡ None → (f : List ℕ → A) → step f k ≡ bottom k) where
  -- more levels than a key's rank make no difference
  same : (n m : ℕ) (k : List ℕ) → rank k < n → rank k < m → deep n k ≡ deep m k
  same zero m k a b = absurd (omega (arith, a))
  same (suc n) zero k a b = absurd (omega (arith, b))
  same (suc n) (suc m) k a b = one_deeper n k ∙ local k (deep n) (deep m) (λ j lt. same n m j (omega (arith, lt, a)) (omega (arith, lt, b))) ∙ sym (one_deeper m k)

  abbrev Agrees : List RepoDef → List ℕ → Type 0
  Agrees rem k = (j : List ℕ) → rank j ≤ rank k → definition rem j ≡ definition defs j

  abbrev without : List ℕ → List RepoDef → List RepoDef
  without k rem = filter (λ d. not (has_key k d)) rem

  other : (j k : List ℕ) (d : RepoDef) → rank j < rank k → has_key j d ≡ true → has_key k d ≡ true → ⊥
  other j k d lt a b =
      let is : j ≡ k = sym (eq_text d.key j a) ∙ eq_text d.key k b in
      let same_rank : rank j ≡ rank k = ap rank is in omega (arith, lt, same_rank)

  -- those left, without a key of greater rank
  agrees_on : (rem : List RepoDef) (k m : List ℕ) → Agrees rem k → rank m < rank k → Agrees (without k rem) m
  agrees_on rem k m agrees lt = λ j le.
      find_kept (has_key j) (λ d. not (has_key k d)) rem (λ d a. not_by (has_key k d) (λ b. other j k d (omega (arith, le, lt)) a b)) ∙ agrees j (omega (arith, le, lt))

  absent_same : (n m : ℕ) (k : List ℕ) → definition defs k ≡ None → deep n k ≡ deep (suc m) k
  absent_same zero m k none = none_deep k ∙ sym (one_deeper m k ∙ absent k none (deep m))
  absent_same (suc n) m k none = one_deeper n k ∙ absent k none (deep n) ∙ sym (one_deeper m k ∙ absent k none (deep m))

  enough : (n : ℕ) (rem : List RepoDef) (k : List ℕ) → length rem ≤ n → Agrees rem k → deep n k ≡ deep (suc (rank k)) k
  enough zero [] k le agrees = absent_same zero (rank k) k (sym (agrees k (omega arith)))
  enough zero (d ∷ rem) k le agrees = absurd (omega (arith, le))
  enough (suc n) rem k le agrees =
      option_by (definition defs k) (λ none. absent_same (suc n) (rank k) k none)
      (λ d is.
      let found : definition rem k ≡ Some d = agrees k (omega arith) ∙ is in
      let less = shorter (has_key k) rem d found in
      one_deeper n k
      ∙ local k (deep n) (deep (rank k)) (λ m lt. enough n (without k rem) m (omega (arith, le, less)) (agrees_on rem k m agrees lt) ∙ same (suc (rank m)) (rank k) m (omega arith) lt)
      ∙ sym (one_deeper (rank k) k))

  all_agree : (k : List ℕ) → Agrees defs k
  all_agree k j le = refl

  -- as many levels as definitions
  pub settled : (k : List ℕ) → deep (length defs) k ≡ step (deep (length defs)) k
  settled k =
      enough (length defs) defs k (omega arith) (all_agree k) ∙ one_deeper (rank k) k
      ∙ local k (deep (rank k)) (deep (length defs)) (λ m lt. same (rank k) (suc (rank m)) m lt (omega arith) ∙ sym (enough (length defs) defs m (omega arith) (all_agree m)))
