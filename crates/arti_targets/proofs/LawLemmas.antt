-- What braces are.
use Rattle.std.proofs.Common.{◌≡◌, ℕ, ◌+◌, ◌-◌, ◌*◌, true, false, List, [], ◌∷◌, Some, None, refl, ap, ◌∙◌, arith}
use Rattle.std.specs.Prelude.{nat_eq, map}
use Rattle.std.specs.List.{list_any}
use Rattle.std.proofs.lemmas.Bool.{ne_eqb, or_parts}
use Rattle.arti_targets.specs.declared.part.TargetPart.TheVariants.{Char, Group}
use Rattle.arti_targets.specs.Targets.{is_digit, hole, hole_from, part_by, part_at, parts_from}
use Rattle.arti_targets.proofs.ReadingLemmas.{digit_is}

not_brace : (a : ℕ) → is_digit a ≡ true → nat_eq a 125 ≡ false
not_brace a d = ne_eqb a 125 (λ e. omega (arith, digit_is a d, e))

pub plain : (text : List ℕ) → list_any (λ c. nat_eq c 123) text ≡ false → parts_from 0 text ≡ map (λ c. Char c) text
unfolding parts_from
plain [] none = refl
plain (c ∷ text) none =
    let parts = or_parts (nat_eq c 123) (list_any (λ c. nat_eq c 123) text) none in
    rw parts.0 (ap (λ l. Char c ∷ l) (plain text parts.1))

first : (c : ℕ) (rest : List ℕ) → parts_from 0 (c ∷ rest) ≡ (part_at c rest).0 ∷ parts_from (part_at c rest).1 rest
unfolding parts_from
first c rest = refl

hole_one : (a : ℕ) (rest : List ℕ) → is_digit a ≡ true → hole (a ∷ 125 ∷ rest) ≡ Some (a - 48, 2)
unfolding hole_from
hole_one a rest d = rw (not_brace a d, d) (ap (λ n. Some (n, 2)) (omega arith))

pub one : (a : ℕ) (rest : List ℕ) → is_digit a ≡ true → parts_from 0 (123 ∷ a ∷ 125 ∷ rest) ≡ Group (a - 48) ∷ parts_from 0 rest
unfolding parts_from
one a rest d = first 123 (a ∷ 125 ∷ rest) ∙ ap (λ h. (part_by 123 h).0 ∷ parts_from (part_by 123 h).1 (a ∷ 125 ∷ rest)) (hole_one a rest d)

hole_two : (a b : ℕ) (rest : List ℕ) → is_digit a ≡ true → is_digit b ≡ true → hole (a ∷ b ∷ 125 ∷ rest) ≡ Some ((a - 48) * 10 + (b - 48), 3)
unfolding hole_from
hole_two a b rest d e = rw (not_brace a d, d, not_brace b e, e) (ap (λ n. Some (n, 3)) (omega arith))

pub two : (a b : ℕ) (rest : List ℕ) → is_digit a ≡ true → is_digit b ≡ true → parts_from 0 (123 ∷ a ∷ b ∷ 125 ∷ rest) ≡ Group ((a - 48) * 10 + (b - 48)) ∷ parts_from 0 rest
unfolding parts_from
two a b rest d e = first 123 (a ∷ b ∷ 125 ∷ rest) ∙ ap (λ h. (part_by 123 h).0 ∷ parts_from (part_by 123 h).1 (a ∷ b ∷ 125 ∷ rest)) (hole_two a b rest d e)

hole_three : (a b c : ℕ) (rest : List ℕ) → is_digit a ≡ true → is_digit b ≡ true → is_digit c ≡ true → hole (a ∷ b ∷ c ∷ 125 ∷ rest) ≡ Some (((a - 48) * 10 + (b - 48)) * 10 + (c - 48), 4)
unfolding hole_from
hole_three a b c rest d e f = rw (not_brace a d, d, not_brace b e, e, not_brace c f, f) (ap (λ n. Some (n, 4)) (omega arith))

pub three : (a b c : ℕ) (rest : List ℕ) → is_digit a ≡ true → is_digit b ≡ true → is_digit c ≡ true
    → parts_from 0 (123 ∷ a ∷ b ∷ c ∷ 125 ∷ rest) ≡ Group (((a - 48) * 10 + (b - 48)) * 10 + (c - 48)) ∷ parts_from 0 rest
unfolding parts_from
three a b c rest d e f = first 123 (a ∷ b ∷ c ∷ 125 ∷ rest) ∙ ap (λ h. (part_by 123 h).0 ∷ parts_from (part_by 123 h).1 (a ∷ b ∷ c ∷ 125 ∷ rest)) (hole_three a b c rest d e f)

too_long : (a b c d : ℕ) (rest : List ℕ) → is_digit a ≡ true → is_digit b ≡ true → is_digit c ≡ true → is_digit d ≡ true → hole (a ∷ b ∷ c ∷ d ∷ rest) ≡ None
unfolding hole_from
too_long a b c d rest da db dc dd = rw (not_brace a da, da, not_brace b db, db, not_brace c dc, dc, not_brace d dd, dd)

pub four : (a b c d : ℕ) (rest : List ℕ) → is_digit a ≡ true → is_digit b ≡ true → is_digit c ≡ true → is_digit d ≡ true
    → parts_from 0 (123 ∷ a ∷ b ∷ c ∷ d ∷ rest) ≡ Char 123 ∷ parts_from 0 (a ∷ b ∷ c ∷ d ∷ rest)
four a b c d rest da db dc dd =
    let after = a ∷ b ∷ c ∷ d ∷ rest in
    first 123 after ∙ ap (λ h. (part_by 123 h).0 ∷ parts_from (part_by 123 h).1 after) (too_long a b c d rest da db dc dd)
