-- The remote whose cache a key is.
use Rattle.std.proofs.Common.{◌≡◌, ◌≢◌, ℕ, Bool, true, false, cond, List, [], ◌∷◌, ◌++◌, refl, sym, ap, ◌∙◌, Option, Some, None, Bor}
use Rattle.std.specs.Prelude.{◌&&◌, codes, MatchOption}
use Rattle.std.specs.List.{find}
use Rattle.std.specs.Str.{bytes_eq}
use Rattle.std.specs.Str.Pattern.{FindsTextSuffix, StripsSuffix}
use Rattle.std.specs.Ordering.{nat_cmp}
use Rattle.std.specs.Cmp.Lexicographic.{slice_cmp}
use Rattle.std.specs.declared.cmp.Ordering.TheVariants.{Less}
use Rattle.std.proofs.lemmas.List.{append_cancel_right}
use Rattle.std.proofs.lemmas.Bool.{false≢true}
use Rattle.std.proofs.lemmas.List.Elements.{All-weaker}
use Rattle.arti_rows.specs.declared.rows.Class.TheVariants.{Remote}
use Rattle.arti_rows.specs.declared.rows.RepoDef.{RepoDef}
use Rattle.arti_repos.specs.Definitions.{InOrder, is_of, has_key, definition, cached_by, cache_key, remote_of}
use Rattle.arti_repos.proofs.Keys.{other_at_greater}
use Rattle.arti_repos.proofs.Places.{heads, tails}
use Rattle.arti_repos.proofs.Texts.{eq_text, text_eq, text_ne, and_false, none_found, some_is}

step : (h r : Bool) (d : RepoDef) (a b : Option RepoDef) → r ≡ is_of Remote d → a ≡ remote_of b → (h ≡ true → a ≡ None) → cond (r && h) (Some d) a ≡ remote_of (cond h (Some d) b)
step true true d a b e same none = ap (λ t. cond t (Some d) None) e
step true false d a b e same none = none refl ∙ ap (λ t. cond t (Some d) None) e
step false true d a b e same none = same
step false false d a b e same none = same

abbrev is_remote_at : List ℕ → RepoDef → Bool
is_remote_at key d = is_of Remote d && has_key key d

no_more : (d : RepoDef) (defs : List RepoDef) (key : List ℕ) → InOrder (d ∷ defs) → has_key key d ≡ true → find (is_remote_at key) defs ≡ None
no_more d defs key order here =
    none_found (is_remote_at key) defs
    (All-weaker (λ (e : RepoDef). slice_cmp nat_cmp d.key e.key ≡ Less) (λ e. is_remote_at key e ≡ false)
    (λ e less. and_false (is_of Remote e) (has_key key e) (other_at_greater e.key key (ap (λ (k : List ℕ). slice_cmp nat_cmp k e.key) (sym (eq_text d.key key here)) ∙ less)))
    defs (heads d defs order))

only : (defs : List RepoDef) (key : List ℕ) → InOrder defs → find (is_remote_at key) defs ≡ remote_of (definition defs key)
only [] key order = refl
only (d ∷ defs) key order =
    step (has_key key d) (is_of Remote d) d (find (is_remote_at key) defs) (definition defs key) refl (only defs key (tails d defs order)) (no_more d defs key order)

abbrev is_cache_at : List ℕ → RepoDef → Bool
is_cache_at key d = is_of Remote d && bytes_eq (cache_key d.key) key

same_by : (a b : List ℕ) (r : Bool) → bytes_eq a b ≡ r → bytes_eq (cache_key a) (cache_key b) ≡ bytes_eq a b
same_by a b true e = text_eq (cache_key a) (cache_key b) (ap cache_key (eq_text a b e)) ∙ sym e
same_by a b false e = text_ne (cache_key a) (cache_key b) (λ same. false≢true (sym e ∙ text_eq a b (append_cancel_right a b (codes "-cache") same))) ∙ sym e

find_same : {X : Type 0} (p q : X → Bool) → ((x : X) → p x ≡ q x) → (xs : List X) → find p xs ≡ find q xs
find_same p q same [] = refl
find_same p q same (x ∷ xs) = ap (λ b. cond b (Some x) (find p xs)) (same x) ∙ ap (λ o. cond (q x) (Some x) o) (find_same p q same xs)

pub cached : (defs : List RepoDef) (front key : List ℕ) → InOrder defs → key ≡ cache_key front → remote_of (definition defs front) ≡ cached_by defs key
cached defs front key order is =
    sym (ap (cached_by defs) is
    ∙ find_same (is_cache_at (cache_key front)) (is_remote_at front) (λ d. ap (λ b. is_of Remote d && b) (same_by d.key front (bytes_eq d.key front) refl)) defs
    ∙ only defs front order)

pub uncached : (defs : List RepoDef) (key : List ℕ) → ((front : List ℕ) → key ≢ cache_key front) → None ≡ cached_by defs key
uncached defs key none =
    sym (none_found (is_cache_at key) defs (λ k d lt. and_false _ _ (text_ne _ key (λ same. none _ (sym same)))))

-- what a suffix leaves
pub front_by : (r : Option (Bor (List ℕ))) (n s : List ℕ) (x : Bor (List ℕ)) → MatchOption r (FindsTextSuffix n s None) (λ x. StripsSuffix (FindsTextSuffix n) s x.now) → r ≡ Some x → s ≡ x.now ++ n
front_by None n s x m is = cc
front_by (Some y) n s x m is =
    m.1.1 ∙ ap (λ (l : List ℕ). l ++ n) (sym m.2) ∙ ap (λ (b : Bor (List ℕ)). b.now ++ n) (some_is y x is)

pub none_by : (r : Option (Bor (List ℕ))) (n s : List ℕ) → MatchOption r (FindsTextSuffix n s None) (λ x. StripsSuffix (FindsTextSuffix n) s x.now) → r ≡ None → (front : List ℕ) → s ≢ front ++ n
none_by None n s m e = m
none_by (Some y) n s m e = cc
