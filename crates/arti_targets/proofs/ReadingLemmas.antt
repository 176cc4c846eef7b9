-- Targets, read character by character.
use Rattle.std.proofs.Common.{◌≡◌, ◌<◌, ℕ, ◌+◌, ◌-◌, ◌*◌, Bool, true, false, List, [], ◌∷◌, ◌++◌, length, drop, get_or, Option, Some, None, sym, ap, ◌∙◌, eq-eqb, ◌≤◌, append_assoc}
use Rattle.std.specs.Prelude.{nat_lt, nat_le, ◌&&◌, if◌then◌else◌}
use Rattle.std.specs.List.{find}
use Rattle.std.proofs.lemmas.Bool.{false≢true, ne_eqb, lt-ltb, leb-true, and_parts}
use Rattle.std.proofs.lemmas.List.{at_drop_more}
use Rattle.std.proofs.Math.Seq.{drop-length}
use Rattle.std.proofs.lemmas.Option.{none-some, same_Some}
use Rattle.arti_targets.specs.declared.part.TargetPart.{TargetPart}
use Rattle.arti_targets.specs.declared.part.TargetPart.TheVariants.{Char, Group}
use Rattle.arti_targets.specs.Targets.{is_digit, is_group, hole_from, part_at, parts_from, is_wrong}

-- one character further
hole_step : (seen number i c : ℕ) (rest : List ℕ) → i < length rest → c ≡ get_or rest i c → hole_from seen number (drop i rest) ≡ hole_from seen number (c ∷ drop (i + 1) rest)
hole_step seen number i c rest l is = at_drop_more (hole_from seen number) rest i c l ∙ ap (λ x. hole_from seen number (x ∷ drop (i + 1) rest)) (sym is)

pub hole_empty : (seen number i c : ℕ) (rest : List ℕ) → i < length rest → c ≡ get_or rest i c → c ≡ 125 → seen ≡ 0 → hole_from seen number (drop i rest) ≡ None
unfolding hole_from
hole_empty seen number i c rest l is e z = hole_step seen number i c rest l is ∙ rw (eq-eqb c 125 e, eq-eqb seen 0 z)

pub hole_closes : (seen number i c : ℕ) (rest : List ℕ) → i < length rest → c ≡ get_or rest i c → c ≡ 125 → (seen ≡ 0 → ⊥) → hole_from seen number (drop i rest) ≡ Some (number, seen + 1)
unfolding hole_from
hole_closes seen number i c rest l is e z = hole_step seen number i c rest l is ∙ rw (eq-eqb c 125 e, ne_eqb seen 0 z)

pub hole_ends : (seen number i c : ℕ) (rest : List ℕ) → i < length rest → c ≡ get_or rest i c → (c ≡ 125 → ⊥) → (is_digit c && nat_lt seen 3) ≡ false → hole_from seen number (drop i rest) ≡ None
unfolding hole_from
hole_ends seen number i c rest l is e d = hole_step seen number i c rest l is ∙ rw (ne_eqb c 125 e, d)

pub hole_goes_on : (seen number i c : ℕ) (rest : List ℕ) → i < length rest → c ≡ get_or rest i c → (c ≡ 125 → ⊥) → (is_digit c && nat_lt seen 3) ≡ true
    → hole_from (seen + 1) (number * 10 + (c - 48)) (drop (i + 1) rest) ≡ hole_from seen number (drop i rest)
unfolding hole_from
hole_goes_on seen number i c rest l is e d = sym (hole_step seen number i c rest l is ∙ rw (ne_eqb c 125 e, d))

pub hole_open : (seen number i : ℕ) (rest : List ℕ) → length rest ≡ i → hole_from seen number (drop i rest) ≡ None
unfolding hole_from
hole_open seen number i rest e = ap (hole_from seen number) (ap (λ n. drop n rest) (sym e) ∙ drop-length rest)

-- the character is a digit
pub digit_is : (c : ℕ) → is_digit c ≡ true → (48 ≤ c) × (c ≤ 57)
digit_is c e =
    let both = and_parts (nat_le 48 c) (nat_le c 57) e in
    (leb-true 48 c both.0, leb-true c 57 both.1)

-- a character that belongs to a part before it
pub taken_goes : (taken i : ℕ) (text : List ℕ) → i < length text → 0 < taken → parts_from taken (drop i text) ≡ parts_from (taken - 1) (drop (i + 1) text)
unfolding parts_from
taken_goes taken i text l e = at_drop_more (parts_from taken) text i 0 l ∙ rw (lt-ltb 0 taken e)

-- a character that a part begins with
part_comes : (taken i c : ℕ) (text : List ℕ) → i < length text → taken ≡ 0 → c ≡ get_or text i c
    → parts_from taken (drop i text) ≡ (part_at c (drop (i + 1) text)).0 ∷ parts_from (part_at c (drop (i + 1) text)).1 (drop (i + 1) text)
unfolding parts_from
part_comes taken i c text l e is = at_drop_more (parts_from taken) text i c l ∙ ap (λ x. parts_from taken (x ∷ drop (i + 1) text)) (sym is) ∙ rw e

pub part_pushed : (parts more : List TargetPart) (taken i c : ℕ) (text rest : List ℕ) (r : TargetPart × ℕ) → i < length text → taken ≡ 0 → c ≡ get_or text i c
    → rest ≡ drop (i + 1) text → r ≡ part_at c rest → more ≡ parts ++ r.0 ∷ [] → more ++ parts_from r.1 (drop (i + 1) text) ≡ parts ++ parts_from taken (drop i text)
part_pushed parts more taken i c text rest r l e is er ep em =
    let same : r ≡ part_at c (drop (i + 1) text) = ep ∙ ap (part_at c) er in
    let after = drop (i + 1) text in
    ap (λ m. m ++ parts_from r.1 after) em ∙ append_assoc parts (r.0 ∷ []) (parts_from r.1 after)
    ∙ ap (λ (q : TargetPart × ℕ). parts ++ q.0 ∷ parts_from q.1 after) same ∙ ap (λ l. parts ++ l) (sym (part_comes taken i c text l e is))

pub no_parts : (taken i : ℕ) (text : List ℕ) → length text ≡ i → parts_from taken (drop i text) ≡ []
unfolding parts_from
no_parts taken i text e = ap (parts_from taken) (ap (λ n. drop n text) (sym e) ∙ drop-length text)

-- a wrong part is a placeholder
either : (b : Bool) (n c : ℕ) (rest : Option TargetPart) → (rest ≡ Some (Char c) → ⊥) → (if b then Some (Group n) else rest) ≡ Some (Char c) → ⊥
either b n c rest other = elim b as (λ b. (if b then Some (Group n) else rest) ≡ Some (Char c) → ⊥) [ true ↦ (λ e. false≢true (sym (ap is_group (same_Some (Group n) (Char c) e)))) | false ↦ other ]

pub no_wrong_char : (groups c : ℕ) (parts : List TargetPart) → find (is_wrong groups) parts ≡ Some (Char c) → ⊥
no_wrong_char groups c [] e = none-some (Char c) e
no_wrong_char groups c (Char d ∷ parts) e = no_wrong_char groups c parts e
no_wrong_char groups c (Group n ∷ parts) e = either (is_wrong groups (Group n)) n c (find (is_wrong groups) parts) (no_wrong_char groups c parts) e
