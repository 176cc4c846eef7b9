-- The folders above a good path are good.
use Rattle.std.proofs.Common.{◌≡◌, ℕ, ◌+◌, ◌<◌, ◌≤◌, Bool, true, false, cond, List, [], ◌∷◌, ◌++◌, length, get_or, take, drop, suc, Option, Some, None, refl, sym, ap, ◌∙◌, arith, length-append, add-one}
use Rattle.std.specs.Prelude.{map, ◌==◌, ◌||◌, nat_lt}
use Rattle.std.specs.List.{slice_split, onto_first}
use Rattle.std.specs.Option.{option_or}
use Rattle.std.proofs.lemmas.List.{append-nil, map-append}
use Rattle.std.proofs.lemmas.Bool.Decides.{nat_tests}
use Rattle.std.proofs.Math.Seq.{take-suc, split_at}
use Rattle.arti_rows.specs.Key.{Key, key_of, fronts}
use Rattle.arti_rows.specs.Names.{is_repo_key, segments_of, segment_fault, first_fault, length_fault, path_fault, key_fault}
use Rattle.arti_rows.specs.declared.fault.KeyFault.{KeyFault}
use Rattle.arti_rows.specs.declared.fault.KeyFault.TheVariants.{BadName, TooLong}

abbrev pub slash : ℕ → Bool
slash b = b == 47

some_parts : (xs : List ℕ) → 0 < length (slice_split slash xs)
some_parts [] = omega arith
some_parts (x ∷ xs) = by (slash x) (slice_split slash xs)
  where
    by : (b : Bool) (parts : List (List ℕ)) → 0 < length (cond b ([] ∷ parts) (onto_first x parts))
    by true parts = omega arith
    by false [] = omega arith
    by false (p ∷ parts) = omega arith

onto_append : (x : ℕ) (parts more : List (List ℕ)) → 0 < length parts → onto_first x (parts ++ more) ≡ onto_first x parts ++ more
onto_append x [] more some = absurd (omega arith)
onto_append x (p ∷ parts) more some = refl

cons_by : (b : Bool) (x : ℕ) (parts more : List (List ℕ)) → 0 < length parts → cond b ([] ∷ (parts ++ more)) (onto_first x (parts ++ more)) ≡ cond b ([] ∷ parts) (onto_first x parts) ++ more
cons_by true x parts more some = refl
cons_by false x parts more some = onto_append x parts more some

-- a path cut at a slash has the segments of both parts
pub segments-append : (xs ys : List ℕ) → segments_of (xs ++ 47 ∷ ys) ≡ segments_of xs ++ segments_of ys
segments-append [] ys = refl
segments-append (x ∷ xs) ys =
    ap (λ (l : List (List ℕ)). cond (slash x) ([] ∷ l) (onto_first x l)) (segments-append xs ys) ∙ cons_by (slash x) x (segments_of xs) (segments_of ys) (some_parts xs)

or_none : (f : Option KeyFault) (g : Option KeyFault) → option_or f g ≡ None → (f ≡ None) × (g ≡ None)
or_none None g e = (refl, e)
or_none (Some fault) g e = cc

first_none : (xs ys : List (List ℕ)) → first_fault (xs ++ ys) ≡ None → first_fault xs ≡ None
first_none [] ys e = refl
first_none (x ∷ xs) ys e =
    let both = or_none (segment_fault x) (first_fault (xs ++ ys)) e in
    ap (λ f. option_or f (first_fault xs)) both.0 ∙ first_none xs ys both.1

short_by : (a b c d : ℕ) → a ≤ c → b ≤ d → cond (nat_lt 1024 c || nat_lt 64 d) (Some TooLong) None ≡ None → cond (nat_lt 1024 a || nat_lt 64 b) (Some TooLong) None ≡ None
short_by a b c d ac bd e = grind (arith, nat_tests)

-- the front of a good path before a slash is good
pub front_good : (front rest : List ℕ) → path_fault (front ++ 47 ∷ rest) ≡ None → path_fault front ≡ None
front_good front rest good =
    let whole = front ++ 47 ∷ rest in
    let both = or_none (first_fault (segments_of whole)) (length_fault whole) good in
    let split = segments-append front rest in
    let firsts = first_none (segments_of front) (segments_of rest) (ap first_fault (sym split) ∙ both.0) in
    let parts : length (segments_of whole) ≡ length (segments_of front) + length (segments_of rest) = ap length split ∙ length-append (segments_of front) (segments_of rest) in
    let lengths = short_by (length front) (length (segments_of front)) (length whole) (length (segments_of whole)) (omega (arith, length-append front (47 ∷ rest))) (omega (arith, parts)) both.1 in
    ap (λ f. option_or f (length_fault front)) firsts ∙ lengths

repo_by : (b : Bool) (f g : Option KeyFault) → (f ≡ None → g ≡ None) → cond b f (Some BadName) ≡ None → cond b g (Some BadName) ≡ None
repo_by true f g h e = h e
repo_by false f g h e = cc

pub folder_good : (repo whole : List ℕ) (i : ℕ) → i < length whole → get_or whole i 0 ≡ 47 → key_fault repo whole ≡ None → key_fault repo (take i whole) ≡ None
folder_good repo whole i below at good =
    let is : whole ≡ take i whole ++ 47 ∷ drop (suc i) whole = split_at whole i 0 below ∙ ap (λ b. take i whole ++ b ∷ drop (suc i) whole) at in
    repo_by (is_repo_key repo) (path_fault whole) (path_fault (take i whole)) (λ e. front_good (take i whole) (drop (suc i) whole) (ap path_fault (sym is) ∙ e)) good

one_front : (x : ℕ) (xs : List ℕ) (t : Bool) → map (λ (front : List ℕ). x ∷ front) (cond t (xs ∷ []) []) ≡ cond t ((x ∷ xs) ∷ []) []
one_front x xs true = refl
one_front x xs false = refl

both_fronts : (t : Bool) (a c d : List (List ℕ)) → a ≡ c ++ d → cond t ([] ∷ a) a ≡ cond t ([] ∷ c) c ++ d
both_fronts true a c d e = ap (λ (l : List (List ℕ)). [] ∷ l) e
both_fronts false a c d e = e

-- one byte more
fronts-push : (xs : List ℕ) (b : ℕ) → fronts (xs ++ b ∷ []) ≡ fronts xs ++ cond (slash b) (xs ∷ []) []
fronts-push [] b = refl
fronts-push (x ∷ xs) b =
    let longer = λ (front : List ℕ). x ∷ front in
    let last : List (List ℕ) = cond (slash b) (xs ∷ []) [] in
    let inner : map longer (fronts (xs ++ b ∷ [])) ≡ map longer (fronts xs) ++ cond (slash b) ((x ∷ xs) ∷ []) [] =
    ap (map longer) (fronts-push xs b) ∙ map-append longer (fronts xs) last ∙ ap (λ (l : List (List ℕ)). map longer (fronts xs) ++ l) (one_front x xs (slash b)) in
    both_fronts (slash x) (map longer (fronts (xs ++ b ∷ []))) (map longer (fronts xs)) (cond (slash b) ((x ∷ xs) ∷ []) []) inner

module _ (repo whole : List ℕ) (i b : ℕ) (below : i < length whole) (is : b ≡ get_or whole i 0) where
  step : fronts (take (i + 1) whole) ≡ fronts (take i whole) ++ cond (slash b) (take i whole ∷ []) []
  step =
      let more : take (i + 1) whole ≡ take i whole ++ get_or whole i 0 ∷ [] = rw add-one (take-suc whole i 0 below) in
      ap fronts more ∙ fronts-push (take i whole) (get_or whole i 0) ∙ ap (λ n. fronts (take i whole) ++ cond (slash n) (take i whole ∷ []) []) (sym is)

  abbrev keys : List (List ℕ) → List Key
  keys l = map (λ front. key_of repo front) l

  pub with_folder : slash b ≡ true → keys (fronts (take (i + 1) whole)) ≡ keys (fronts (take i whole)) ++ key_of repo (take i whole) ∷ []
  with_folder hit =
      ap keys step ∙ ap (λ t. keys (fronts (take i whole) ++ cond t (take i whole ∷ []) [])) hit ∙ map-append (λ front. key_of repo front) (fronts (take i whole)) (take i whole ∷ [])

  pub without_folder : slash b ≡ false → keys (fronts (take (i + 1) whole)) ≡ keys (fronts (take i whole))
  without_folder miss =
      ap keys step ∙ ap (λ t. keys (fronts (take i whole) ++ cond t (take i whole ∷ []) [])) miss ∙ ap keys (append-nil (fronts (take i whole)))
