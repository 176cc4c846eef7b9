-- The tokens of printed numbers.
use Rattle.std.proofs.Common.{◌≡◌, ℕ, suc, ◌+◌, ◌-◌, ◌*◌, ◌^◌, ◌<◌, ◌≤◌, ◌⊎◌, Bool, true, false, List, [], ◌∷◌, ◌++◌, length, get_or, drop, Some, Ok, refl, ap, ◌∙◌, ⊎_elim, arith, rules, ℤ, pos, negsuc, neg_ℤ, fold}
use Rattle.std.specs.Prelude.{◌&&◌, nat_lt, ◌==◌, decimal, unsigned_abs}
use Rattle.std.specs.Fmt.{signed_decimal}
use Rattle.std.specs.List.{prefix_len, list_all}
use Rattle.std.specs.Char.{is_ascii_digit}
use Rattle.std.proofs.lemmas.Bool.{ne_eqb, eqb-true, cases_eq}
use Rattle.std.proofs.lemmas.Bool.Decides.{nat_tests}
use Rattle.std.proofs.lemmas.Fmt.{decimal_digit, decimal_nonempty, first_decimal, length-decimal-le, digits_decimal, digits_value-decimal}
use Rattle.std.proofs.lemmas.Str.Parse.{IsNumeralModel, numerals_by_fold}
use Rattle.arti_aql_lex.specs.Tokens.{sign_len, digits_end, number_end}
use Rattle.arti_aql_lex.specs.declared.token.TokenKind.TheVariants.{Number}
use Rattle.arti_aql_parse.specs.Words.{digits_value, number_of, natural_of}
use Rattle.arti_aql_parse.proofs.PrintTokens.{Begins, number_begins, both, front_len}

-- digits that write a number as it is printed
record Numeral (ds : List ℕ) (n : ℕ) : Type 0 where
  digits : list_all is_ascii_digit ds ≡ true
  some : 0 < length ds
  few : length ds ≤ 18
  lead : get_or ds 0 0 ≡ 48 → length ds ≡ 1
  value : digits_value ds ≡ n

own : IsNumeralModel (λ ds. list_all is_ascii_digit ds ≡ true) (λ ds. fold (λ n b. n * 10 + (b - 48)) 0 ds)
own = numerals_by_fold _ (search rules) (λ n ds. fold (λ m b. m * 10 + (b - 48)) n ds) (search rules)

decimal_lead : (n : ℕ) → n < 10 ^ 18 → (n ≡ 0) ⊎ (n ≡ 0 → ⊥) → get_or (decimal n) 0 0 ≡ 48 → length (decimal n) ≡ 1
decimal_lead n small cases first =
    ⊎_elim (λ none. ap length (decimal_digit n (omega arith)))
    (λ some. absurd (omega (arith, first_decimal n (omega arith) (omega arith), first)))
    cases

decimal_numeral : (n : ℕ) → n < 10 ^ 18 → Numeral (decimal n) n
decimal_numeral n small =
    let fits : n < 2 ^ 64 = omega arith in
    record {
      digits = digits_decimal own n fits;
      some = decimal_nonempty n fits;
      few = length-decimal-le 18 n (omega arith) small fits;
      lead = decimal_lead n small (cases_eq n 0);
      value = digits_value-decimal own n fits;
    }

lead_test : (x n : ℕ) (t : Bool) → (x == 48) ≡ t → (x ≡ 48 → n ≡ 1) → ((x == 48) && nat_lt 1 n) ≡ false
lead_test x n true e one = let is : n ≡ 1 = one (eqb-true x 48 e) in rw (e, is) refl
lead_test x n false e one = rw e refl

ends_there : (p : ℕ) (xs : List ℕ) (sign n : ℕ) → 0 < n → n ≤ 18 → (get_or xs sign 0 ≡ 48 → n ≡ 1) → digits_end p xs sign n ≡ Ok (p + sign + n)
ends_there p xs sign n some few lead =
    let a : (n == 0) ≡ false = ne_eqb n 0 (λ z. omega (arith, z)) in
    let b : ((get_or xs sign 0 == 48) && nat_lt 1 n) ≡ false = lead_test (get_or xs sign 0) n (get_or xs sign 0 == 48) refl lead in
    let c : nat_lt 18 n ≡ false = grind (arith, nat_tests) in
    rw (a, b, c) refl

digit_no_minus : (d : ℕ) → is_ascii_digit d ≡ true → (d == 45) ≡ false
digit_no_minus d h = grind (arith, nat_tests)

plain_begins : (ds : List ℕ) (n : ℕ) → Numeral ds n → (p : ℕ) (rest : List ℕ) → prefix_len is_ascii_digit rest ≡ 0 → Begins p (ds ++ rest) Number ds rest
unfolding number_end
plain_begins [] n x p rest stop = absurd (omega (arith, x.some))
plain_begins (d ∷ ds) n x p rest stop =
    let xs = d ∷ (ds ++ rest) in
    let h = both (is_ascii_digit d) (list_all is_ascii_digit ds) x.digits in
    let sign : sign_len xs ≡ 0 = rw (digit_no_minus d h.0) refl in
    let count : prefix_len is_ascii_digit xs ≡ suc (length ds) = front_len is_ascii_digit (d ∷ ds) rest x.digits stop in
    let long : p + 0 + suc (length ds) ≡ p + suc (length ds) = omega arith in
    let end : number_end p xs ≡ Ok (p + suc (length ds)) =
    ap (λ s. digits_end p xs s (prefix_len is_ascii_digit (drop s xs))) sign ∙ ap (digits_end p xs 0) count ∙ ends_there p xs 0 (suc (length ds)) x.some x.few x.lead ∙ ap Ok long in
    number_begins d ds p rest (rw h.0 refl) end

minus_begins : (ds : List ℕ) (n : ℕ) → Numeral ds n → (p : ℕ) (rest : List ℕ) → prefix_len is_ascii_digit rest ≡ 0 → Begins p (45 ∷ (ds ++ rest)) Number (45 ∷ ds) rest
unfolding number_end
minus_begins [] n x p rest stop = absurd (omega (arith, x.some))
minus_begins (d ∷ ds) n x p rest stop =
    let xs = 45 ∷ d ∷ (ds ++ rest) in
    let count : prefix_len is_ascii_digit (d ∷ (ds ++ rest)) ≡ suc (length ds) = front_len is_ascii_digit (d ∷ ds) rest x.digits stop in
    let long : p + 1 + suc (length ds) ≡ p + suc (suc (length ds)) = omega arith in
    let end : number_end p xs ≡ Ok (p + suc (suc (length ds))) = ap (digits_end p xs 1) count ∙ ends_there p xs 1 (suc (length ds)) x.some x.few x.lead ∙ ap Ok long in
    number_begins 45 (d ∷ ds) p rest refl end

plain_value : (ds : List ℕ) (n : ℕ) → Numeral ds n → number_of ds ≡ pos n
unfolding number_of
plain_value [] n x = absurd (omega (arith, x.some))
plain_value (d ∷ ds) n x = let h = both (is_ascii_digit d) (list_all is_ascii_digit ds) x.digits in rw (digit_no_minus d h.0, x.value) refl

plain_natural : (ds : List ℕ) (n : ℕ) → Numeral ds n → natural_of ds ≡ Some n
unfolding natural_of
plain_natural [] n x = absurd (omega (arith, x.some))
plain_natural (d ∷ ds) n x = let h = both (is_ascii_digit d) (list_all is_ascii_digit ds) x.digits in rw (digit_no_minus d h.0, x.value) refl

minus_value : (ds : List ℕ) (n : ℕ) → Numeral ds (suc n) → number_of (45 ∷ ds) ≡ negsuc n
unfolding number_of
minus_value ds n x = ap (λ v. neg_ℤ (pos v)) x.value

-- a printed number before a byte that is no digit
pub number_printed : (z : ℤ) (p : ℕ) (rest : List ℕ) → unsigned_abs z < 10 ^ 18 → prefix_len is_ascii_digit rest ≡ 0 → (value : List ℕ) × Begins p (signed_decimal z ++ rest) Number value rest × (number_of value ≡ z)
number_printed (pos n) p rest small stop = let x = decimal_numeral n small in (decimal n, plain_begins (decimal n) n x p rest stop, plain_value (decimal n) n x)
number_printed (negsuc n) p rest small stop = let x = decimal_numeral (suc n) small in (45 ∷ decimal (suc n), minus_begins (decimal (suc n)) (suc n) x p rest stop, minus_value (decimal (suc n)) n x)

pub natural_printed : (n p : ℕ) (rest : List ℕ) → n < 10 ^ 18 → prefix_len is_ascii_digit rest ≡ 0 → (value : List ℕ) × Begins p (decimal n ++ rest) Number value rest × (natural_of value ≡ Some n)
natural_printed n p rest small stop = let x = decimal_numeral n small in (decimal n, plain_begins (decimal n) n x p rest stop, plain_natural (decimal n) n x)
