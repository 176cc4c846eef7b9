-- Ant patterns by their first segment.
use Rattle.std.proofs.Common.{◌≡◌, ℕ, ◌↔◌, Bool, true, false, ◌&&◌, List, [], ◌∷◌, ◌++◌, refl, sym, ap, ◌∙◌}
use Rattle.std.specs.Prelude.{◌==◌, codes}
use Rattle.std.specs.List.{onto_first}
use Rattle.std.proofs.lemmas.Bool.{false≢true, and_parts, and_from}
use Rattle.std.proofs.lemmas.List.Splits.{slice_split-cons_yes, slice_split-cons_no}
use Rattle.arti_wild.specs.Fits.{fits}
use Rattle.arti_wild.specs.Wild.{wild_text}
use Rattle.arti_wild.specs.Ant.{segments, with_open_end, pattern_segments, is_double_star, segments_fit}
use Rattle.arti_wild.proofs.FitsLemmas.{by_bool, nil≢cons, same_head, same_tail, fits-many, any_rest_has, any_rest_of, rest_front, front_rest}

pub ant_end : (path : List (List ℕ)) → (segments_fit [] path ≡ true) ↔ (path ≡ [])
unfolding fits
ant_end [] = ((λ e. refl), (λ e. refl))
ant_end (s ∷ path) = ((λ e. absurd (false≢true e)), (λ e. absurd (nil≢cons s path e)))

pub ant_double_star : (pattern path : List (List ℕ)) → (segments_fit (codes "**" ∷ pattern) path ≡ true) ↔ ((front : List (List ℕ)) × (rest : List (List ℕ)) × (front ++ rest ≡ path) × (segments_fit pattern rest ≡ true))
ant_double_star pattern path =
    let as_rests = fits-many is_double_star wild_text (codes "**") pattern path refl in (
      (λ e. let found = any_rest_has (segments_fit pattern) path (sym as_rests ∙ e) in
          let front = rest_front found.0 path found.1 in
          (front.0, found.0, front.1, found.2)),
      (λ (front, rest, is, e). as_rests ∙ any_rest_of (segments_fit pattern) rest path (front_rest front rest path is) e),
    )

pub ant_other : (first : List ℕ) (pattern path : List (List ℕ)) → is_double_star first ≡ false → (segments_fit (first ∷ pattern) path ≡ true) ↔ ((segment : List ℕ) × (rest : List (List ℕ)) × (segment ∷ rest ≡ path) × (wild_text first segment ≡ true) × (segments_fit pattern rest ≡ true))
unfolding fits
ant_other first pattern [] plain = ((λ e. absurd (false≢true (rw plain at e))), (λ (segment, rest, is, t, e). absurd (nil≢cons segment rest is)))
ant_other first pattern (s ∷ path) plain = (
  (λ e. let both = and_parts (wild_text first s) (segments_fit pattern path) (rw plain at e) in (s, path, refl, both.0, both.1)),
  (λ (segment, rest, is, t, e). rw plain (and_from (wild_text first s) (segments_fit pattern path) (ap (wild_text first) (sym (same_head segment s rest path is)) ∙ t) (ap (segments_fit pattern) (sym (same_tail segment s rest path is)) ∙ e))),
)

-- what ends in a slash has two parts at least
two_parts : (pattern : List ℕ) → (first : List ℕ) × (next : List ℕ) × (more : List (List ℕ)) × (segments (pattern ++ codes "/") ≡ first ∷ next ∷ more)
two_parts [] = ([], [], [], refl)
two_parts (c ∷ pattern) =
    let parts = two_parts pattern in
    by_bool (c == 47)
    (λ t. ([], parts.0, parts.1 ∷ parts.2, slice_split-cons_yes (λ b. b == 47) c (pattern ++ codes "/") t ∙ ap (λ (l : List (List ℕ)). [] ∷ l) parts.3))
    (λ f. (c ∷ parts.0, parts.1, parts.2, slice_split-cons_no (λ b. b == 47) c (pattern ++ codes "/") f ∙ ap (onto_first c) parts.3))

open_onto : (c : ℕ) (l : List (List ℕ)) (first next : List ℕ) (more : List (List ℕ)) → l ≡ first ∷ next ∷ more → with_open_end (onto_first c l) ≡ onto_first c (with_open_end l)
open_onto c l first next more e = rw e refl

open_after : (l : List (List ℕ)) (first next : List ℕ) (more : List (List ℕ)) → l ≡ first ∷ next ∷ more → with_open_end ([] ∷ l) ≡ [] ∷ with_open_end l
open_after l first next more e = rw e refl

pub ant_open_end : (pattern : List ℕ) → pattern_segments (pattern ++ codes "/") ≡ segments (pattern ++ codes "/**")
ant_open_end [] = refl
ant_open_end (c ∷ pattern) =
    let parts = two_parts pattern in
    by_bool (c == 47)
    (λ t. ap with_open_end (slice_split-cons_yes (λ b. b == 47) c (pattern ++ codes "/") t) ∙ open_after (segments (pattern ++ codes "/")) parts.0 parts.1 parts.2 parts.3
    ∙ ap (λ (l : List (List ℕ)). [] ∷ l) (ant_open_end pattern) ∙ sym (slice_split-cons_yes (λ b. b == 47) c (pattern ++ codes "/**") t))
    (λ f. ap with_open_end (slice_split-cons_no (λ b. b == 47) c (pattern ++ codes "/") f) ∙ open_onto c (segments (pattern ++ codes "/")) parts.0 parts.1 parts.2 parts.3
    ∙ ap (onto_first c) (ant_open_end pattern) ∙ sym (slice_split-cons_no (λ b. b == 47) c (pattern ++ codes "/**") f))
