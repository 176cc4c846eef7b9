-- Texts of numbers that are too great to be read.
use Rattle.std.proofs.Common.{◌≡◌, ℕ, ◌^◌, ◌<◌, Bool, true, false, ◌&&◌, not, List, [], ◌∷◌, length, refl, subst, arith, ltb, leb}
use Rattle.std.specs.Prelude.{Some, None, Result, Err, if◌then◌else◌}
use Rattle.std.specs.Result.{OkIff}
use Rattle.std.specs.List.{list_all}
use Rattle.std.specs.Char.{is_ascii_digit, digit_value}
use Rattle.std.specs.Int.{IsInRange}
use Rattle.std.specs.Str.Parse.{digits_value, AllDigits, ParsesUnsigned}
use Rattle.std.proofs.lemmas.Bool.{and_parts, leb-true, ltb-true}
use Rattle.std.proofs.lemmas.Bool.Decides.{nat_tests}
use Rattle.std.proofs.lemmas.Str.{digit_value_digit}
use Rattle.std.proofs.lemmas.Str.Parse.{IsNumeralModel, parse_digits}
use Rattle.arti_main.specs.Words.{has_leading_zero, is_number, greatest_start, start_of}

in_range : (c : ℕ) → is_ascii_digit c ≡ true → IsInRange 48 57 c
in_range c h = grind (arith, nat_tests)

below_ten : (c : ℕ) → is_ascii_digit c ≡ true → digit_value c < 10
below_ten c h = let r = in_range c h in omega (arith, digit_value_digit c r, r)

all_digits : (ds : List ℕ) → list_all is_ascii_digit ds ≡ true → AllDigits 10 ds
all_digits [] h = tt
all_digits (c ∷ cs) h = let both = and_parts (is_ascii_digit c) (list_all is_ascii_digit cs) h in (below_ten c both.0, all_digits cs both.1)

own : IsNumeralModel (AllDigits 10) (digits_value 10)
own = record { to = λ ds h. h; from = λ ds h. h; same = λ ds h. refl }

-- a number that is too great for 64 bits is too great
too_great : (text : List ℕ) (at_most : Bool) → is_number text ≡ true → leb (digits_value 10 text) greatest_start ≡ at_most → (digits_value 10 text < 2 ^ 64 → ⊥)
    → (if is_number text && leb (digits_value 10 text) greatest_start then Some (digits_value 10 text) else None) ≡ None
too_great text true number fits never = absurd (never (omega (arith, leb-true (digits_value 10 text) greatest_start fits)))
too_great text false number fits never = rw (number, fits) refl

pub unparsed : {E : Type 0} (text : List ℕ) (r : Result ℕ E) (e : E) → is_number text ≡ true → ParsesUnsigned 64 10 text r → r ≡ Err e → start_of text ≡ None
unparsed {E = E} text r e number parses failed =
    let outer = and_parts (ltb 0 (length text) && list_all is_ascii_digit text) (not (has_leading_zero text)) number in
    let inner = and_parts (ltb 0 (length text)) (list_all is_ascii_digit text) outer.0 in
    let some : 0 < length text = ltb-true 0 (length text) inner.0 in
    let ok = subst (λ (x : Result ℕ E). OkIff x ((0 < length text) × (digits_value 10 text < 2 ^ 64)) (digits_value 10 text)) failed (parse_digits own 64 text r parses (all_digits text inner.1)) in
    too_great text (leb (digits_value 10 text) greatest_start) number refl (λ fits. ok (some, fits))
