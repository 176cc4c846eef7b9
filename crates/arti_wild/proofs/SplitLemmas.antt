-- The greatest split, and wild patterns by their first character.
use Rattle.std.proofs.Common.{◌≡◌, ◌⊎◌, inl, inr, ⊎_elim, ℕ, ◌<◌, ◌≢◌, ◌↔◌, Bool, true, false, cond, ◌&&◌, List, [], ◌∷◌, ◌++◌, drop, Option, Some, None, refl, sym, ap, ◌∙◌, subst, eq-eqb}
use Rattle.std.specs.Prelude.{◌==◌}
use Rattle.std.proofs.lemmas.Bool.{false≢true, eqb-true, ne_eqb, cases_order, and_parts, and_from, or_cases, or_right}
use Rattle.std.proofs.lemmas.Option.{none-some, same_Some}
use Rattle.arti_wild.specs.declared.part.Part.{Part}
use Rattle.arti_wild.specs.declared.part.Part.TheVariants.{Char, LastSlash, Any, Star, Open, Close}
use Rattle.arti_wild.specs.Fits.{fits}
use Rattle.arti_wild.specs.Wild.{is_star, stands_for, wild_chars}
use Rattle.arti_wild.specs.Splits.{takes_first, Splits, IsAtMost, greatest}
use Rattle.arti_wild.proofs.FitsLemmas.{nil≢cons, same_head, same_tail, fits-many, any_rest_has, any_rest_of, rest_front, front_rest}
use Rattle.arti_wild.proofs.RowLemmas.{when_takes, longest_some, longest_none}

stands_for_itself : (p c : ℕ) → p ≢ 63 → stands_for p c ≡ true → p ≡ c
stands_for_itself p c plain e = ⊎_elim (λ (t : (p == 63) ≡ true). absurd (plain (eqb-true p 63 t))) (λ (t : (p == c) ≡ true). eqb-true p c t) (or_cases (p == 63) (p == c) e)

nothing : (others lengths : List ℕ) → others ≡ [] → IsAtMost others lengths
unfolding IsAtMost
nothing others lengths e = rw e tt

pub greatest_splits : (parts : List Part) (text lengths : List ℕ) → greatest parts text ≡ Some lengths → Splits parts text lengths
unfolding greatest Splits
greatest_splits [] [] lengths e = (refl, sym (same_Some [] lengths e))
greatest_splits [] (c ∷ text) lengths e = absurd (none-some lengths e)
greatest_splits (Star ∷ parts) text lengths e =
    let h = longest_some (greatest parts) text lengths e in
    (h.first, h.more, h.is, h.within, greatest_splits parts (drop h.first text) h.more h.goes)
greatest_splits (Open ∷ parts) text lengths e = greatest_splits parts text lengths e
greatest_splits (Close ∷ parts) text lengths e = greatest_splits parts text lengths e
greatest_splits (Char c ∷ parts) text lengths e = let t = when_takes (takes_first (Char c) text) (greatest parts (drop 1 text)) lengths e in (t.0, greatest_splits parts (drop 1 text) lengths t.1)
greatest_splits (LastSlash ∷ parts) text lengths e = let t = when_takes (takes_first LastSlash text) (greatest parts (drop 1 text)) lengths e in (t.0, greatest_splits parts (drop 1 text) lengths t.1)
greatest_splits (Any ∷ parts) text lengths e = let t = when_takes (takes_first Any text) (greatest parts (drop 1 text)) lengths e in (t.0, greatest_splits parts (drop 1 text) lengths t.1)

no_less : (b : Bool) (o : Option (List ℕ)) → cond b o None ≡ None → b ≡ true → o ≡ None
no_less true o e t = e
no_less false o e t = absurd (false≢true t)

pub no_splits : (parts : List Part) (text lengths : List ℕ) → greatest parts text ≡ None → Splits parts text lengths → ⊥
unfolding greatest Splits
no_splits [] [] lengths e s = none-some [] (sym e)
no_splits [] (c ∷ text) lengths e s = nil≢cons c text s.0
no_splits (Star ∷ parts) text lengths e (n, more, is, within, s) = no_splits parts (drop n text) more (longest_none (greatest parts) text e n within) s
no_splits (Open ∷ parts) text lengths e s = no_splits parts text lengths e s
no_splits (Close ∷ parts) text lengths e s = no_splits parts text lengths e s
no_splits (Char c ∷ parts) text lengths e s = no_splits parts (drop 1 text) lengths (no_less (takes_first (Char c) text) (greatest parts (drop 1 text)) e s.0) s.1
no_splits (LastSlash ∷ parts) text lengths e s = no_splits parts (drop 1 text) lengths (no_less (takes_first LastSlash text) (greatest parts (drop 1 text)) e s.0) s.1
no_splits (Any ∷ parts) text lengths e s = no_splits parts (drop 1 text) lengths (no_less (takes_first Any text) (greatest parts (drop 1 text)) e s.0) s.1

at_most_star : (n : ℕ) (more lengths : List ℕ) (first : ℕ) (rest : List ℕ) → (n < first) ⊎ ((n ≡ first) × IsAtMost more rest) → lengths ≡ n ∷ more → (greater : List ℕ) → greater ≡ first ∷ rest → IsAtMost lengths greater
unfolding IsAtMost
at_most_star n more lengths first rest h is greater is_greater = rw (is, is_greater) h

pub at_most_greatest : (parts : List Part) (text lengths others : List ℕ) → greatest parts text ≡ Some lengths → Splits parts text others → IsAtMost others lengths
unfolding greatest Splits
at_most_greatest [] text lengths others e s = nothing others lengths s.1
at_most_greatest (Star ∷ parts) text lengths others e (n, more, is, within, s) =
    let h = longest_some (greatest parts) text lengths e in
    at_most_star n more others h.first h.more
    (⊎_elim
    (λ (same : n ≡ h.first). inr (same, at_most_greatest parts (drop h.first text) h.more more h.goes (subst (λ k. Splits parts (drop k text) more) same s)))
    (λ other. ⊎_elim (λ (lt : n < h.first). inl lt) (λ (gt : h.first < n). absurd (no_splits parts (drop n text) more (h.last n gt within) s)) other)
    (cases_order n h.first))
    is lengths h.is
at_most_greatest (Open ∷ parts) text lengths others e s = at_most_greatest parts text lengths others e s
at_most_greatest (Close ∷ parts) text lengths others e s = at_most_greatest parts text lengths others e s
at_most_greatest (Char c ∷ parts) text lengths others e s = at_most_greatest parts (drop 1 text) lengths others (when_takes (takes_first (Char c) text) (greatest parts (drop 1 text)) lengths e).1 s.1
at_most_greatest (LastSlash ∷ parts) text lengths others e s = at_most_greatest parts (drop 1 text) lengths others (when_takes (takes_first LastSlash text) (greatest parts (drop 1 text)) lengths e).1 s.1
at_most_greatest (Any ∷ parts) text lengths others e s = at_most_greatest parts (drop 1 text) lengths others (when_takes (takes_first Any text) (greatest parts (drop 1 text)) lengths e).1 s.1

-- wild patterns

pub wild_end : (text : List ℕ) → (wild_chars [] text ≡ true) ↔ (text ≡ [])
unfolding fits
wild_end [] = ((λ e. refl), (λ e. refl))
wild_end (c ∷ text) = ((λ e. absurd (false≢true e)), (λ e. absurd (nil≢cons c text e)))

pub wild_star : (pattern text : List ℕ) → (wild_chars (42 ∷ pattern) text ≡ true) ↔ ((front : List ℕ) × (rest : List ℕ) × (front ++ rest ≡ text) × (wild_chars pattern rest ≡ true))
wild_star pattern text =
    let as_rests = fits-many is_star stands_for 42 pattern text refl in (
      (λ e. let found = any_rest_has (wild_chars pattern) text (sym as_rests ∙ e) in
          let front = rest_front found.0 text found.1 in
          (front.0, found.0, front.1, found.2)),
      (λ (front, rest, is, e). as_rests ∙ any_rest_of (wild_chars pattern) rest text (front_rest front rest text is) e),
    )

first_of : (p : ℕ) (pattern text : List ℕ) → is_star p ≡ false → (wild_chars (p ∷ pattern) text ≡ true) ↔ ((c : ℕ) × (rest : List ℕ) × (c ∷ rest ≡ text) × (stands_for p c ≡ true) × (wild_chars pattern rest ≡ true))
unfolding fits
first_of p pattern [] plain = ((λ e. absurd (false≢true (rw plain at e))), (λ (c, rest, is, t, e). absurd (nil≢cons c rest is)))
first_of p pattern (d ∷ text) plain = (
  (λ e. let both = and_parts (stands_for p d) (wild_chars pattern text) (rw plain at e) in (d, text, refl, both.0, both.1)),
  (λ (c, rest, is, t, e). rw plain (and_from (stands_for p d) (wild_chars pattern text) (ap (stands_for p) (sym (same_head c d rest text is)) ∙ t) (ap (wild_chars pattern) (sym (same_tail c d rest text is)) ∙ e))),
)

pub wild_any : (pattern text : List ℕ) → (wild_chars (63 ∷ pattern) text ≡ true) ↔ ((c : ℕ) × (rest : List ℕ) × (c ∷ rest ≡ text) × (wild_chars pattern rest ≡ true))
wild_any pattern text =
    let first = first_of 63 pattern text refl in
    ((λ e. let f = first.0 e in (f.0, f.1, f.2, f.4)), (λ (c, rest, is, e). first.1 (c, rest, is, refl, e)))

pub wild_itself : (c : ℕ) (pattern text : List ℕ) → c ≢ 42 → c ≢ 63 → (wild_chars (c ∷ pattern) text ≡ true) ↔ ((rest : List ℕ) × (c ∷ rest ≡ text) × (wild_chars pattern rest ≡ true))
wild_itself c pattern text no_star no_mark =
    let first = first_of c pattern text (ne_eqb c 42 no_star) in (
      (λ e. let f = first.0 e in (f.1, ap (λ d. d ∷ f.1) (stands_for_itself c f.0 no_mark f.3) ∙ f.2, f.4)),
      (λ (rest, is, e). first.1 (c, rest, is, or_right (c == 63) (c == c) (eq-eqb c c refl), e)),
    )
