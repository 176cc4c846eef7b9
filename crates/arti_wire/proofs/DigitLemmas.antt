-- The number that at most 18 digits write, digit by digit.
use Rattle.std.proofs.Common.{◌≡◌, ℕ, ◌+◌, ◌*◌, ◌-◌, ◌^◌, ◌<◌, ◌≤◌, Bool, true, ◌&&◌, List, [], ◌∷◌, length, take, get_or, refl, sym, ◌∙◌, arith, ltb, leb, lit<, lit≤}
use Rattle.std.proofs.lemmas.Bool.{and_parts, leb-true}
use Rattle.std.proofs.lemmas.Bool.Decides.{nat_tests}
use Rattle.std.proofs.Math.Nat.{pow-le-pow_right}
use Rattle.std.specs.List.{list_all}
use Rattle.std.specs.Char.{is_ascii_digit, digit_value}
use Rattle.std.specs.Int.{IsInRange}
use Rattle.std.specs.Str.Parse.{digits_value, AllDigits}
use Rattle.std.proofs.lemmas.Str.{digit_value_digit}
use Rattle.std.proofs.lemmas.Str.Parse.{digit_at, digits_value-take-le}
use Rattle.std.proofs.lemmas.Int.Digits.{digits_value-lt, digits_value_more}
use Rattle.arti_model.specs.Requests.{is_length}

in_range : (c : ℕ) → is_ascii_digit c ≡ true → IsInRange 48 57 c
in_range c h = grind (arith, nat_tests)

below_ten : (c : ℕ) → is_ascii_digit c ≡ true → digit_value c < 10
below_ten c h = let r = in_range c h in omega (arith, digit_value_digit c r, r)

all_digits : (ds : List ℕ) → list_all is_ascii_digit ds ≡ true → AllDigits 10 ds
all_digits [] h = tt
all_digits (c ∷ cs) h = let both = and_parts (is_ascii_digit c) (list_all is_ascii_digit cs) h in (below_ten c both.0, all_digits cs both.1)

-- the next digit's number, and that it fits 64 bits
pub next_digit : (ds : List ℕ) (i : ℕ) → is_length ds ≡ true → i < length ds
    → (digits_value 10 (take i ds) * 10 + (get_or ds i 0 - 48) ≡ digits_value 10 (take (i + 1) ds)) × (digits_value 10 (take (i + 1) ds) < 10 ^ 18) × (48 ≤ get_or ds i 0)
next_digit ds i h low =
    let outer = and_parts _ (list_all is_ascii_digit ds) h in
    let inner = and_parts (ltb 0 (length ds)) (leb (length ds) 18) outer.0 in
    let short : length ds ≤ 18 = leb-true (length ds) 18 inner.1 in
    let digits : AllDigits 10 ds = all_digits ds outer.1 in
    let range = digit_at ds i digits low in
    let value = digit_value_digit (get_or ds i 0) range in
    let more = digits_value_more 10 ds i low in
    let whole = digits_value-lt 10 ds digits in
    let power = pow-le-pow_right {n = 10} (lit< tt) short in
    let part = digits_value-take-le 10 ds (i + 1) (lit≤ tt) in
    (omega (arith, more, value, range), omega (arith, whole, power, part), omega (arith, range))
