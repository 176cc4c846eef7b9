-- Tests of texts, and lists that tests run over.
use Rattle.std.proofs.Common.{◌≡◌, ◌≢◌, ℕ, ◌+◌, ◌≤◌, Bool, true, false, cond, List, [], ◌∷◌, length, refl, sym, ap, ◌∙◌, arith, Some, None}
use Rattle.std.specs.Prelude.{All, filter, not, ◌&&◌, ◌||◌}
use Rattle.std.specs.List.{find}
use Rattle.std.specs.Str.{bytes_eq}
use Rattle.std.specs.Cmp.Lexicographic.{same_text, other_text}
use Rattle.std.proofs.lemmas.List.Elements.{All-head, All-tail}
use Rattle.std.proofs.lemmas.Bool.{false≢true}

pub eq_text : (a b : List ℕ) → bytes_eq a b ≡ true → a ≡ b
eq_text a b e = same_text a b (sym e)

true_by : (a b : List ℕ) (r : Bool) → r ≡ bytes_eq a b → a ≡ b → bytes_eq a b ≡ true
true_by a b true e same = sym e
true_by a b false e same = absurd (other_text a b e same)

pub text_eq : (a b : List ℕ) → a ≡ b → bytes_eq a b ≡ true
text_eq a b same = true_by a b (bytes_eq a b) refl same

false_by : (a b : List ℕ) (r : Bool) → r ≡ bytes_eq a b → a ≢ b → bytes_eq a b ≡ false
false_by a b true e other = absurd (other (same_text a b e))
false_by a b false e other = sym e

pub text_ne : (a b : List ℕ) → a ≢ b → bytes_eq a b ≡ false
text_ne a b other = false_by a b (bytes_eq a b) refl other

pub and_false : (a b : Bool) → b ≡ false → (a && b) ≡ false
and_false true b e = e
and_false false b e = refl

pub or_true : (a b : Bool) → b ≡ true → (a || b) ≡ true
or_true true b e = refl
or_true false b e = e

pub or_front : (a b : Bool) → a ≡ true → (a || b) ≡ true
or_front a b e = ap (λ (t : Bool). t || b) e

pub none_found : {X : Type 0} (p : X → Bool) (xs : List X) → All (λ x. p x ≡ false) xs → find p xs ≡ None
none_found p [] all = refl
none_found p (x ∷ xs) all =
    ap (λ b. cond b (Some x) (find p xs)) (All-head (λ y. p y ≡ false) x xs all) ∙ none_found p xs (All-tail (λ y. p y ≡ false) x xs all)

pub some_is : {X : Type 0} (a b : X) → Some a ≡ Some b → a ≡ b
some_is a b h = cc

pub none_some : {X : Type 0} (d : X) → None ≡ Some d → ⊥
none_some d h = cc

passes_by : {X : Type 0} (p : X → Bool) (x : X) (xs : List X) (d : X) (b : Bool) → p x ≡ b → (find p xs ≡ Some d → p d ≡ true) → cond b (Some x) (find p xs) ≡ Some d → p d ≡ true
passes_by p x xs d true e rest is = ap p (sym (some_is x d is)) ∙ e
passes_by p x xs d false e rest is = rest is

-- what is found passes
pub found_passes : {X : Type 0} (p : X → Bool) (xs : List X) (d : X) → find p xs ≡ Some d → p d ≡ true
found_passes p [] d is = absurd (none_some d is)
found_passes p (x ∷ xs) d is = passes_by p x xs d (p x) refl (found_passes p xs d) is

-- a filter that keeps all that a search looks for
kept_by : {X : Type 0} (q p : X → Bool) (x : X) (xs : List X) (a b : Bool) → q x ≡ a → p x ≡ b → (q x ≡ true → p x ≡ true) → find q (filter p xs) ≡ find q xs
    → find q (cond b (x ∷ filter p xs) (filter p xs)) ≡ cond a (Some x) (find q xs)
kept_by q p x xs true true ea eb keeps rest = ap (λ t. cond t (Some x) (find q (filter p xs))) ea
kept_by q p x xs false true ea eb keeps rest = ap (λ t. cond t (Some x) (find q (filter p xs))) ea ∙ rest
kept_by q p x xs true false ea eb keeps rest = absurd (false≢true (sym eb ∙ keeps ea))
kept_by q p x xs false false ea eb keeps rest = rest

pub find_kept : {X : Type 0} (q p : X → Bool) (xs : List X) → ((x : X) → q x ≡ true → p x ≡ true) → find q (filter p xs) ≡ find q xs
find_kept q p [] keeps = refl
find_kept q p (x ∷ xs) keeps = kept_by q p x xs (q x) (p x) refl refl (keeps x) (find_kept q p xs keeps)

-- without what a search finds, a list is shorter
no_longer_by : {X : Type 0} (x : X) (ys xs : List X) (b : Bool) → length ys ≤ length xs → length (cond b (x ∷ ys) ys) ≤ length (x ∷ xs)
no_longer_by x ys xs true le = omega (arith, le)
no_longer_by x ys xs false le = omega (arith, le)

no_longer : {X : Type 0} (p : X → Bool) (xs : List X) → length (filter p xs) ≤ length xs
no_longer p [] = omega arith
no_longer p (x ∷ xs) = no_longer_by x (filter p xs) xs (p x) (no_longer p xs)

shorter_by : {X : Type 0} (p : X → Bool) (x d : X) (xs : List X) (b : Bool) → p x ≡ b → (find p xs ≡ Some d → length (filter (λ y. not (p y)) xs) + 1 ≤ length xs)
    → cond b (Some x) (find p xs) ≡ Some d → length (cond (not b) (x ∷ filter (λ y. not (p y)) xs) (filter (λ y. not (p y)) xs)) + 1 ≤ length (x ∷ xs)
shorter_by p x d xs true e rest is = let le = no_longer (λ y. not (p y)) xs in omega (arith, le)
shorter_by p x d xs false e rest is = let le = rest is in omega (arith, le)

pub shorter : {X : Type 0} (p : X → Bool) (xs : List X) (d : X) → find p xs ≡ Some d → length (filter (λ y. not (p y)) xs) + 1 ≤ length xs
shorter p [] d is = absurd (none_some d is)
shorter p (x ∷ xs) d is = shorter_by p x d xs (p x) refl (shorter p xs d) is
