-- Segments, taken off one by one.
use Rattle.std.proofs.Common.{◌≡◌, ℕ, suc, ◌+◌, ◌<◌, Bool, true, false, not, cond, ◌||◌, ◌≢◌, List, [], ◌∷◌, ◌++◌, length, refl, sym, ap, ◌∙◌, arith}
use Rattle.std.specs.Prelude.{reverse, ◌==◌}
use Rattle.std.specs.List.{list_any, slice_split, onto_first, position_or_len, before_first, after_first}
use Rattle.std.proofs.lemmas.Bool.{false≢true, eqb-true}
use Rattle.std.proofs.Math.Bool.{or-false}
use Rattle.std.proofs.lemmas.List.{reverse-append, reverse-reverse}
use Rattle.std.proofs.lemmas.List.Splits.{slice_split_first, slice_split-cons_yes, slice_split-cons_no}
use Rattle.arti_wild.specs.Ant.{segments, with_open_end, pattern_segments, segments_fit, pattern_fits, skip_spaces, skip_last_spaces, segments_left, pattern_left, end_of}
use Rattle.arti_wild.proofs.FitsLemmas.{by_bool}

-- a text without the byte is one part
pub whole_part : (c : ℕ) (text : List ℕ) → position_or_len (λ b. b == c) text ≡ length text → slice_split (λ b. b == c) text ≡ text ∷ []
whole_part c [] e = refl
whole_part c (b ∷ text) e = by_bool (b == c)
    (λ t. absurd (let zero_is : 0 ≡ suc (length text) = sym (ap (λ v. cond (not v) (1 + position_or_len (λ b. b == c) text) 0) t) ∙ e in omega arith))
    (λ f. let more : 1 + position_or_len (λ b. b == c) text ≡ suc (length text) = sym (ap (λ v. cond (not v) (1 + position_or_len (λ b. b == c) text) 0) f) ∙ e in
    slice_split-cons_no (λ b. b == c) b text f ∙ ap (onto_first b) (whole_part c text (omega arith)))

pub cut_segment : (more : Bool) (text segment rest : List ℕ) → more ≡ true → segment ≡ before_first (λ b. b == 47) text → rest ≡ after_first (λ b. b == 47) text → position_or_len (λ b. b == 47) text < length text → segments_left more text ≡ segment ∷ segments_left true rest
cut_segment more text segment rest e front back h = rw (e, front, back) (slice_split_first (λ b. b == 47) text 0 h)

pub whole_segment : (more : Bool) (text : List ℕ) → more ≡ true → position_or_len (λ b. b == 47) text ≡ length text → segments_left more text ≡ text ∷ segments_left false text
whole_segment more text e h = rw e (whole_part 47 text h)

-- there is always a part
pub some_part : (p : ℕ → Bool) (text : List ℕ) → (first : List ℕ) × (others : List (List ℕ)) × (slice_split p text ≡ first ∷ others)
some_part p [] = ([], [], refl)
some_part p (b ∷ text) = by_bool (p b)
    (λ t. ([], slice_split p text, slice_split-cons_yes p b text t))
    (λ f. let others = some_part p text in (b ∷ others.0, others.1, slice_split-cons_no p b text f ∙ ap (onto_first b) others.2))

pub opened : (left : List (List ℕ)) (segment end : List ℕ) (more : Bool) (rest : List ℕ) → left ≡ segment ∷ segments_left more rest → end ≡ end_of more segment → with_open_end left ≡ end ∷ pattern_left more rest
opened left segment end false rest e f = rw (e, f) refl
opened left segment end true rest e f =
    let next = some_part (λ b. b == 47) rest in
    ap with_open_end (e ∙ ap (λ (l : List (List ℕ)). segment ∷ l) next.2) ∙ ap (λ (s : List ℕ). s ∷ with_open_end (next.0 ∷ next.1)) (sym f) ∙ ap (λ (l : List (List ℕ)). end ∷ with_open_end l) (sym next.2)

-- spaces

pub skip_one : (text rest : List ℕ) → text ≡ 32 ∷ rest → skip_spaces text ≡ skip_spaces rest
skip_one text rest e = ap skip_spaces e

pub skip_none : (text : List ℕ) → ((rest : List ℕ) → text ≢ 32 ∷ rest) → skip_spaces text ≡ text
skip_none [] h = refl
skip_none (b ∷ text) h = by_bool (b == 32)
    (λ t. absurd (h text (ap (λ (c : ℕ). c ∷ text) (eqb-true b 32 t))))
    (λ f. rw f refl)

pub skip_last_one : (text front : List ℕ) → text ≡ front ++ (32 ∷ []) → skip_last_spaces text ≡ skip_last_spaces front
skip_last_one text front e = ap (λ (l : List ℕ). reverse (skip_spaces l)) (ap reverse e ∙ reverse-append front (32 ∷ []))

skipped_last : (text back : List ℕ) → reverse text ≡ back → ((front : List ℕ) → text ≢ front ++ (32 ∷ [])) → skip_spaces back ≡ back
skipped_last text back e h = skip_none back (λ rest starts. h (reverse rest) (sym (reverse-reverse text) ∙ ap reverse (e ∙ starts) ∙ reverse-append (32 ∷ []) rest))

pub skip_last_none : (text : List ℕ) → ((front : List ℕ) → text ≢ front ++ (32 ∷ [])) → skip_last_spaces text ≡ text
skip_last_none text h = ap reverse (skipped_last text (reverse text) refl h) ∙ reverse-reverse text

-- the patterns of a list, one by one

pub first_pattern : (test : List ℕ → Bool) (patterns first more : List ℕ) → first ≡ before_first (λ b. b == 44) patterns → more ≡ after_first (λ b. b == 44) patterns → position_or_len (λ b. b == 44) patterns < length patterns
    → list_any test (slice_split (λ b. b == 44) patterns) ≡ (test first || list_any test (slice_split (λ b. b == 44) more))
first_pattern test patterns first more front back h = rw (front, back) (ap (list_any test) (slice_split_first (λ b. b == 44) patterns 0 h))

pub last_pattern : (test : List ℕ → Bool) (patterns : List ℕ) → position_or_len (λ b. b == 44) patterns ≡ length patterns → list_any test (slice_split (λ b. b == 44) patterns) ≡ test patterns
last_pattern test patterns h = ap (list_any test) (whole_part 44 patterns h) ∙ or-false (test patterns)

pub not_first : (a b r : Bool) → r ≡ (a || b) → a ≡ false → r ≡ b
not_first a b r e f = e ∙ ap (λ v. v || b) f

pub is_first : (a b r : Bool) → r ≡ (a || b) → a ≡ true → true ≡ r
is_first a b r e t = sym (e ∙ ap (λ v. v || b) t)

pub nonempty : (pattern path : List ℕ) → (length pattern == 0) ≡ false → pattern_fits pattern path ≡ segments_fit (pattern_segments pattern) (segments path)
nonempty [] path e = absurd (false≢true (sym e))
nonempty (b ∷ pattern) path e = refl

pub empty : (pattern path : List ℕ) → (length pattern == 0) ≡ true → false ≡ pattern_fits pattern path
empty [] path e = refl
empty (b ∷ pattern) path e = absurd (let h : suc (length pattern) ≡ 0 = eqb-true (suc (length pattern)) 0 e in omega arith)
