-- What is read from the front of a text is what stands there.
use Rattle.std.proofs.Common.{◌≡◌, ℕ, suc, ◌+◌, ◌-◌, ◌*◌, ◌/◌, ◌%◌, ◌<◌, Bool, true, false, cond, ◌&&◌, List, [], ◌∷◌, ◌++◌, length, take, Option, Some, None, refl, sym, ap, ◌∙◌, subst, arith}
use Rattle.std.specs.Prelude.{All, option_and_then}
use Rattle.std.specs.List.{prefix_len}
use Rattle.std.specs.Char.{is_ascii_digit, IsAsciiDigit}
use Rattle.std.proofs.lemmas.Option.{cond_some, none-some, same_Some}
use Rattle.std.proofs.lemmas.Bool.{eqb-true, and_parts}
use Rattle.std.proofs.lemmas.Bool.Decides.{nat_tests}
use Rattle.std.proofs.lemmas.List.Elements.{All-head, All-tail, All-cons, All-nil}
use Rattle.arti_time.specs.Printed.{digits}
use Rattle.arti_time.specs.Front.{two_digits, four_digits, after}

-- the two cases of a test
pub by_bool : {P : Type 0} (b : Bool) → (b ≡ true → P) → (b ≡ false → P) → P
by_bool true t f = t refl
by_bool false t f = f refl

-- a chain of readers that succeeds succeeds at its first step
pub then_some : {A B : Type 0} (o : Option A) (f : A → Option B) (y : B) → option_and_then f o ≡ Some y → (x : A) × (o ≡ Some x) × (f x ≡ Some y)
then_some None f y e = absurd (none-some y e)
then_some (Some x) f y e = (x, refl, e)

-- a test that has to fail, fails
pub when_none : {A : Type 0} (b : Bool) (x y : A) → cond b None (Some x) ≡ Some y → (b ≡ false) × (x ≡ y)
when_none true x y e = absurd (none-some y e)
when_none false x y e = (refl, same_Some x y e)

pub digit_true : (c : ℕ) → is_ascii_digit c ≡ true → IsAsciiDigit c
digit_true c e = grind (arith, nat_tests)

pub digit_false : (c : ℕ) → is_ascii_digit c ≡ false → IsAsciiDigit c → ⊥
digit_false c e h = grind (arith, nat_tests)

pub true_digit : (c : ℕ) → IsAsciiDigit c → is_ascii_digit c ≡ true
true_digit c h = grind (arith, nat_tests)

same_two : (high low : ℕ) → IsAsciiDigit high → IsAsciiDigit low → let n = (high - 48) * 10 + (low - 48) in (n < 100) × (48 + n / 10 % 10 ≡ high) × (48 + n % 10 ≡ low)
same_two high low h l = (omega arith, omega arith, omega arith)

pub two_digits_sound : (text : List ℕ) (n : ℕ) (rest : List ℕ) → two_digits text ≡ Some (n, rest) → (n < 100) × (digits 2 n ++ rest ≡ text)
unfolding two_digits
two_digits_sound [] n rest e = absurd (none-some (n, rest) e)
two_digits_sound (high ∷ []) n rest e = absurd (none-some (n, rest) e)
two_digits_sound (high ∷ low ∷ more) n rest e =
    let found = cond_some (is_ascii_digit high && is_ascii_digit low) ((high - 48) * 10 + (low - 48), more) (n, rest) e in
    let both = and_parts (is_ascii_digit high) (is_ascii_digit low) found.0 in
    let same = same_two high low (digit_true high both.0) (digit_true low both.1) in
    let en : (high - 48) * 10 + (low - 48) ≡ n = ap (λ (p : ℕ × List ℕ). p.0) found.1 in
    let er : more ≡ rest = ap (λ (p : ℕ × List ℕ). p.1) found.1 in
    subst (λ (k : ℕ). (k < 100) × (digits 2 k ++ rest ≡ high ∷ low ∷ more)) en
    (same.0, rw (same.1, same.2, er) refl)

pub two_digits_complete : (n : ℕ) (rest : List ℕ) → n < 100 → two_digits (digits 2 n ++ rest) ≡ Some (n, rest)
unfolding two_digits
two_digits_complete n rest h =
    let high : is_ascii_digit (48 + n / 10 % 10) ≡ true = true_digit (48 + n / 10 % 10) (omega arith, omega arith) in
    let low : is_ascii_digit (48 + n % 10) ≡ true = true_digit (48 + n % 10) (omega arith, omega arith) in
    let same : (48 + n / 10 % 10 - 48) * 10 + (48 + n % 10 - 48) ≡ n = omega arith in
    rw (high, low, same) refl

join_digits : (century year n : ℕ) (rest year_text text : List ℕ) → century < 100 → year < 100 → century * 100 + year ≡ n → digits 2 century ++ year_text ≡ text → digits 2 year ++ rest ≡ year_text → (n < 10000) × (digits 4 n ++ rest ≡ text)
join_digits century year n rest year_text text hc hy e first second =
    let a : n / 10 / 10 / 10 % 10 ≡ century / 10 % 10 = omega arith in
    let b : n / 10 / 10 % 10 ≡ century % 10 = omega arith in
    let c : n / 10 % 10 ≡ year / 10 % 10 = omega arith in
    let d : n % 10 ≡ year % 10 = omega arith in
    (omega arith, rw (a, b, c, d) (ap (λ (l : List ℕ). digits 2 century ++ l) second ∙ first))

pub four_digits_sound : (text : List ℕ) (n : ℕ) (rest : List ℕ) → four_digits text ≡ Some (n, rest) → (n < 10000) × (digits 4 n ++ rest ≡ text)
unfolding four_digits
four_digits_sound text n rest e =
    let century = then_some (two_digits text) _ (n, rest) e in
    let year = then_some (two_digits century.0.1) _ (n, rest) century.2 in
    let first = two_digits_sound text century.0.0 century.0.1 century.1 in
    let second = two_digits_sound century.0.1 year.0.0 year.0.1 year.1 in
    let pair = same_Some _ _ year.2 in
    let en : century.0.0 * 100 + year.0.0 ≡ n = ap (λ (p : ℕ × List ℕ). p.0) pair in
    let er : year.0.1 ≡ rest = ap (λ (p : ℕ × List ℕ). p.1) pair in
    join_digits century.0.0 year.0.0 n rest century.0.1 text first.0 second.0 en first.1 (ap (λ (l : List ℕ). digits 2 year.0.0 ++ l) (sym er) ∙ second.1)

pub four_digits_complete : (n : ℕ) (rest : List ℕ) → n < 10000 → four_digits (digits 4 n ++ rest) ≡ Some (n, rest)
unfolding four_digits
four_digits_complete n rest h =
    let a : n / 10 / 10 / 10 % 10 ≡ n / 100 / 10 % 10 = omega arith in
    let b : n / 10 / 10 % 10 ≡ n / 100 % 10 = omega arith in
    let c : n / 10 % 10 ≡ n % 100 / 10 % 10 = omega arith in
    let d : n % 10 ≡ n % 100 % 10 = omega arith in
    let split : digits 4 n ++ rest ≡ digits 2 (n / 100) ++ (digits 2 (n % 100) ++ rest) = rw (a, b, c, d) refl in
    let same : n / 100 * 100 + n % 100 ≡ n = omega arith in
    rw split (rw (two_digits_complete (n / 100) (digits 2 (n % 100) ++ rest) (omega arith), two_digits_complete (n % 100) rest (omega arith), same) refl)

pub after_sound : (byte : ℕ) (text rest : List ℕ) → after byte text ≡ Some rest → byte ∷ rest ≡ text
unfolding after
after_sound byte [] rest e = absurd (none-some rest e)
after_sound byte (first ∷ more) rest e =
    let found = cond_some _ more rest e in
    let same : first ≡ byte = eqb-true first byte found.0 in
    rw (same, found.1) refl

pub after_complete : (byte : ℕ) (rest : List ℕ) → after byte (byte ∷ rest) ≡ Some rest
unfolding after
after_complete byte rest = grind (arith, nat_tests)

-- the digits at the front are digits, and what follows them begins with none
pub front_digits : (text : List ℕ) → All IsAsciiDigit (take (prefix_len is_ascii_digit text) text)
front_digits [] = All-nil IsAsciiDigit
front_digits (c ∷ text) = by_bool (is_ascii_digit c)
    (λ e. rw e (let more : suc (prefix_len is_ascii_digit text) ≡ 1 + prefix_len is_ascii_digit text = omega arith in subst (λ (n : ℕ). All IsAsciiDigit (take n (c ∷ text))) more (All-cons IsAsciiDigit c _ (digit_true c e) (front_digits text))))
    (λ e. rw e (All-nil IsAsciiDigit))

-- the byte is no digit, or there is none
abbrev pub BeginsPlain : List ℕ → Type 0
BeginsPlain [] = Unit {0}
BeginsPlain (c ∷ rest) = is_ascii_digit c ≡ false

pub prefix_len-digits : (ds rest : List ℕ) → All IsAsciiDigit ds → BeginsPlain rest → prefix_len is_ascii_digit (ds ++ rest) ≡ length ds
prefix_len-digits [] [] all plain = refl
prefix_len-digits [] (c ∷ rest) all plain = rw plain refl
prefix_len-digits (d ∷ ds) rest all plain =
    let first : is_ascii_digit d ≡ true = true_digit d (All-head IsAsciiDigit d ds all) in
    rw first (let e : 1 + prefix_len is_ascii_digit (ds ++ rest) ≡ length (d ∷ ds) = omega (arith, prefix_len-digits ds rest (All-tail IsAsciiDigit d ds all) plain) in e)
