-- What is printed is read back.
use Rattle.std.proofs.Common.{◌≡◌, ℕ, ◌+◌, ◌/◌, ◌%◌, ◌<◌, [], ◌∷◌, Some, refl, arith, ℤ, pos, ◌-ℤ◌, ◌*ℤ◌}
use Rattle.std.specs.Prelude.{All}
use Rattle.std.specs.Char.{IsAsciiDigit}
use Rattle.std.proofs.lemmas.Int.{ints}
use Rattle.std.proofs.lemmas.List.Elements.{All-nil, All-cons}
use Rattle.arti_rows.specs.Moments.{IsMoment}
use Rattle.arti_time.specs.Civil.{moment_of}
use Rattle.arti_time.specs.Printed.{digits, civil_at, printed}
use Rattle.arti_time.specs.Dates.{Zulu, Time, milliseconds_of}
use Rattle.arti_time.specs.DateReader.{date_of}
use Rattle.arti_time.proofs.CivilLemmas.{civil_at_is}
use Rattle.arti_time.proofs.DateLemmas.{date_of_complete}

three_digits : (n : ℕ) → All IsAsciiDigit (digits 3 n)
three_digits n =
    let a : IsAsciiDigit (48 + n / 10 / 10 % 10) = (omega arith, omega arith) in
    let b : IsAsciiDigit (48 + n / 10 % 10) = (omega arith, omega arith) in
    let c : IsAsciiDigit (48 + n % 10) = (omega arith, omega arith) in
    All-cons IsAsciiDigit (48 + n / 10 / 10 % 10) ((48 + n / 10 % 10) ∷ (48 + n % 10) ∷ []) a
    (All-cons IsAsciiDigit (48 + n / 10 % 10) ((48 + n % 10) ∷ []) b (All-cons IsAsciiDigit (48 + n % 10) [] c (All-nil IsAsciiDigit)))

three_digits_worth : (n : ℕ) → n < 1000 → n ≡ milliseconds_of (digits 3 n)
three_digits_worth n h = omega arith

pub read_back : (m : ℤ) → IsMoment m → date_of (printed m) ≡ Some m
unfolding printed
read_back m h =
    let at = civil_at_is m h in
    let c = civil_at m in
    let means : moment_of c -ℤ (pos 0 *ℤ pos 60000) ≡ m = omega (arith, ints, at.1) in
    date_of_complete (printed m) m
    (Time c (digits 3 c.millisecond) Zulu, (at.0, omega arith, three_digits c.millisecond, three_digits_worth c.millisecond at.0.millisecond, tt), refl, means, h)
