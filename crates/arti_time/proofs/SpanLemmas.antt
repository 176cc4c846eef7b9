-- The reader of spans reads exactly the texts of spans.
use Rattle.std.proofs.Common.{◌≡◌, ℕ, zero, suc, ◌+◌, ◌-◌, ◌*◌, ◌^◌, ◌<◌, ◌≤◌, false, ◌||◌, List, [], ◌∷◌, ◌++◌, length, get_or, take, drop, Option, Some, None, Result, IfOk, OnErr, refl, sym, ap, ◌∙◌, subst, arith}
use Rattle.std.proofs.Math.Nat.{pow-suc, pow-le-pow_right}
use Rattle.std.specs.Prelude.{All, Contains, slice_index_or, option_map, nat_lt, ◌==◌}
use Rattle.std.specs.Option.{ok_or}
use Rattle.std.specs.List.{prefix_len}
use Rattle.std.specs.Str.{bytes_eq}
use Rattle.std.specs.Str.Parse.{digits_value}
use Rattle.std.specs.Char.{is_ascii_digit, IsAsciiDigit}
use Rattle.std.proofs.lemmas.Option.{none-some, same_Some}
use Rattle.std.proofs.lemmas.Int.Digits.{digits_value_more}
use Rattle.std.proofs.lemmas.Str.{digit_value_digit}
use Rattle.std.proofs.lemmas.Slice.Eq.{bytes_eq-Decides}
use Rattle.std.proofs.lemmas.Bool.Decides.{nat_tests}
use Rattle.std.proofs.lemmas.List.{take_at, drop_at, take-append-drop}
use Rattle.std.proofs.lemmas.List.Folds.{length-prefix_len}
use Rattle.arti_time.specs.declared.spans.NotASpan.{NotASpan}
use Rattle.arti_time.specs.Spans.{SpanUnit, units, ReadsSpan, unit_among, span_of}
use Rattle.arti_time.proofs.FrontLemmas.{by_bool, front_digits, BeginsPlain, prefix_len-digits}

-- one digit more
pub number_more : (bs : List ℕ) (i n d : ℕ) → i < length bs → IsAsciiDigit (get_or bs i 0) → d ≡ get_or bs i 0 - 48 → n ≡ digits_value 10 (take i bs) → n < 10 ^ i
    → (n * 10 + d ≡ digits_value 10 (take (i + 1) bs)) × (n * 10 + d < 10 ^ (i + 1))
number_more bs i n d h digit is value bound =
    let next : i + 1 ≡ suc i = omega arith in
    let power : 10 ^ (i + 1) ≡ 10 * 10 ^ i = rw next (omega (arith, pow-suc 10 i)) in
    let worth = digit_value_digit (get_or bs i 0) digit in
    (omega (arith, digits_value_more 10 bs i h, worth), omega (arith, power))

pub number_bound : (n i : ℕ) → i ≤ 6 → n < 10 ^ i → n < 1000000
number_bound n i few bound =
    let most : 10 ^ i ≤ 10 ^ 6 = pow-le-pow_right {n = 10} (omega arith) few in
    omega (arith, most)

-- a unit that is found is listed
unit_sound : (us : List SpanUnit) (name : List ℕ) (ms : ℕ) → unit_among us name ≡ Some ms → (u : SpanUnit) × Contains us u × (name ≡ u.name) × (u.milliseconds ≡ ms)
unit_sound [] name ms e = absurd (none-some ms e)
unit_sound (unit ∷ more) name ms e = by_bool (bytes_eq name unit.name)
    (λ same. (unit, (0, omega arith, refl), (bytes_eq-Decides name unit.name).0 same, same_Some _ _ (rw same at e)))
    (λ other.
    let found = unit_sound more name ms (rw other at e) in
    let at = found.1 in
    (found.0, (suc at.0, omega (arith, at.1), at.2), found.2, found.3))

-- and a listed unit is found, whose name begins with no digit
abbrev IsFound : SpanUnit → Type 0
IsFound u = (unit_among units u.name ≡ Some u.milliseconds) × BeginsPlain u.name

found_at : (k : ℕ) (u : SpanUnit) → k < 13 → slice_index_or units k u ≡ u → IsFound u
found_at zero u h e = subst IsFound e (refl, refl)
found_at (suc zero) u h e = subst IsFound e (refl, refl)
found_at (suc (suc zero)) u h e = subst IsFound e (refl, refl)
found_at (suc (suc (suc zero))) u h e = subst IsFound e (refl, refl)
found_at (suc (suc (suc (suc zero)))) u h e = subst IsFound e (refl, refl)
found_at (suc (suc (suc (suc (suc zero))))) u h e = subst IsFound e (refl, refl)
found_at (suc (suc (suc (suc (suc (suc zero)))))) u h e = subst IsFound e (refl, refl)
found_at (suc (suc (suc (suc (suc (suc (suc zero))))))) u h e = subst IsFound e (refl, refl)
found_at (suc (suc (suc (suc (suc (suc (suc (suc zero)))))))) u h e = subst IsFound e (refl, refl)
found_at (suc (suc (suc (suc (suc (suc (suc (suc (suc zero))))))))) u h e = subst IsFound e (refl, refl)
found_at (suc (suc (suc (suc (suc (suc (suc (suc (suc (suc zero)))))))))) u h e = subst IsFound e (refl, refl)
found_at (suc (suc (suc (suc (suc (suc (suc (suc (suc (suc (suc zero))))))))))) u h e = subst IsFound e (refl, refl)
found_at (suc (suc (suc (suc (suc (suc (suc (suc (suc (suc (suc (suc zero)))))))))))) u h e = subst IsFound e (refl, refl)
found_at (suc (suc (suc (suc (suc (suc (suc (suc (suc (suc (suc (suc (suc k))))))))))))) u h e = absurd (omega arith)

listed_found : (u : SpanUnit) → Contains units u → IsFound u
listed_found u (k, h, e) = found_at k u h e

map_some : {A B : Type 0} (f : A → B) (o : Option A) (y : B) → option_map f o ≡ Some y → (x : A) × (o ≡ Some x) × (f x ≡ y)
map_some f None y e = absurd (none-some y e)
map_some f (Some x) y e = (x, refl, same_Some (f x) y e)

split_span : (text : List ℕ) (len n : ℕ) → len ≡ prefix_len is_ascii_digit text → ((len == 0) || nat_lt 6 len) ≡ false → option_map (λ unit. digits_value 10 (take len text) * unit) (unit_among units (drop len text)) ≡ Some n → ReadsSpan text n
split_span text len n is fits e =
    let found = map_some (λ (unit : ℕ). digits_value 10 (take len text) * unit) (unit_among units (drop len text)) n e in
    let unit = unit_sound units (drop len text) found.0 found.1 in
    let size : length (take len text) ≡ len = rw is (length-prefix_len is_ascii_digit text) in
    let some : (0 < len) × (len ≤ 6) = grind (arith, nat_tests) in (
      take len text,
      unit.0,
      record {
        some = omega (arith, size, some);
        few = omega (arith, size, some);
        all = rw is (front_digits text);
        listed = unit.1;
        written = ap (λ (l : List ℕ). take len text ++ l) (sym unit.2) ∙ take-append-drop len text;
        value = ap (λ (k : ℕ). digits_value 10 (take len text) * k) unit.3 ∙ found.2;
      },
    )

-- what is read is meant by the text
pub span_of_sound : (text : List ℕ) (n : ℕ) → span_of text ≡ Some n → ReadsSpan text n
unfolding span_of
span_of_sound text n e =
    let len = prefix_len is_ascii_digit text in
    by_bool ((len == 0) || nat_lt 6 len)
    (λ out. absurd (none-some n (rw out at e)))
    (λ fits. split_span text len n refl fits (rw fits at e))

join_span : (ds : List ℕ) (unit : SpanUnit) (n : ℕ) → 1 ≤ length ds → length ds ≤ 6 → All IsAsciiDigit ds → Contains units unit → digits_value 10 ds * unit.milliseconds ≡ n → span_of (ds ++ unit.name) ≡ Some n
unfolding span_of
join_span ds unit n some few all listed value =
    let found = listed_found unit listed in
    let len = prefix_len is_ascii_digit (ds ++ unit.name) in
    let is : len ≡ length ds = prefix_len-digits ds unit.name all found.1 in
    let test : ((len == 0) || nat_lt 6 len) ≡ false = grind (arith, nat_tests) in
    let front : take len (ds ++ unit.name) ≡ ds = take_at ds unit.name len (sym is) in
    let back : drop len (ds ++ unit.name) ≡ unit.name = drop_at ds unit.name len (sym is) in
    rw (test, front, back) (rw found.0 (ap Some value))

-- and what is meant is read
pub span_of_complete : (text : List ℕ) (n : ℕ) → ReadsSpan text n → span_of text ≡ Some n
span_of_complete text n (ds, unit, h) = ap span_of (sym h.written) ∙ join_span ds unit n h.some h.few h.all h.listed h.value

-- what these say of the answer to a caller

pub answer_reads : (text : List ℕ) (r : Result ℕ NotASpan) (o : Option ℕ) (e : NotASpan) → r ≡ ok_or o e → o ≡ span_of text → IfOk r (ReadsSpan text)
answer_reads text r None e er eo = rw er tt
answer_reads text r (Some n) e er eo = rw er (span_of_sound text n (sym eo))

pub answer_refuses : (text : List ℕ) (r : Result ℕ NotASpan) (o : Option ℕ) (e : NotASpan) → r ≡ ok_or o e → o ≡ span_of text → OnErr r ((n : ℕ) → ReadsSpan text n → ⊥)
answer_refuses text r None e er eo = rw er (λ n reads. none-some n (eo ∙ span_of_complete text n reads))
answer_refuses text r (Some n) e er eo = rw er tt
