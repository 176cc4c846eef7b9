-- What is printed of a byte of a text is one piece, which stands for that byte.
use Rattle.std.proofs.Common.{◌≡◌, ◌≢◌, ℕ, suc, ◌+◌, ◌*◌, ◌<◌, ◌≤◌, ◌/◌, ◌%◌, true, false, List, [], ◌∷◌, ◌++◌, length, get_or, Some, Ok, refl, sym, ap, subst, ⊎_elim, arith}
use Rattle.std.specs.Prelude.{nat_lt, ◌==◌}
use Rattle.std.specs.Char.{digit_char, encode_utf8}
use Rattle.std.proofs.lemmas.Bool.{cases_eq, cases_lt, ne_eqb, lt-ltb}
use Rattle.std.proofs.lemmas.Bool.Decides.{nat_tests}
use Rattle.std.proofs.lemmas.Str.{digit_value-digit_char, encode_ascii}
use Rattle.json.specs.Print.{escape_byte, escape_letter}
use Rattle.arti_aql_lex.specs.Escape.{hex_digit, hex_at, unit_at, unicode_at, short_escape, escape_at, is_high_surrogate, is_low_surrogate}
use Rattle.arti_aql_lex.specs.Literal.{piece_len, piece_text, piece_width}
use Rattle.arti_json.specs.EscapeLaws.{escape_byte-plain}

-- what is printed of a byte, as a piece before other bytes
pub record Piece (c : ℕ) : Type 0 where
  pub first : ℕ
  pub others : List ℕ
  pub whole : escape_byte c ≡ first ∷ others
  pub no_quote : (first == 34) ≡ false
  pub len : (o p : ℕ) (rest : List ℕ) → piece_len o p (first ∷ (others ++ rest)) ≡ Ok (suc (length others))
  pub text : (rest : List ℕ) → piece_text (first ∷ (others ++ rest)) ≡ c ∷ []
  pub width : (rest : List ℕ) → piece_width (first ∷ (others ++ rest)) ≡ suc (length others)

plain : (c : ℕ) → nat_lt c 32 ≡ false → (c == 34) ≡ false → (c == 92) ≡ false → Piece c
unfolding piece_len piece_text piece_width
plain c high quote slash = record {
  first = c;
  others = [];
  whole = escape_byte-plain c (rw (high, quote, slash) refl);
  no_quote = quote;
  len = λ o p rest. rw (high, slash) refl;
  text = λ rest. rw slash refl;
  width = λ rest. rw slash refl;
}

-- a piece that is an escape
escaped : (c : ℕ) (others : List ℕ) → escape_byte c ≡ 92 ∷ others → ((rest : List ℕ) → escape_at (92 ∷ (others ++ rest)) ≡ Ok (c, suc (length others))) → encode_utf8 c ≡ c ∷ [] → Piece c
unfolding piece_len piece_text piece_width
escaped c others whole read one = record {
  first = 92;
  others = others;
  whole = whole;
  no_quote = refl;
  len = λ o p rest. rw (read rest) refl;
  text = λ rest. rw (read rest) one;
  width = λ rest. rw (read rest) refl;
}

not_short : (n : ℕ) → nat_lt (suc (suc n)) 2 ≡ false
not_short n = grind (arith, nat_tests)

short : (c l : ℕ) → escape_byte c ≡ 92 ∷ l ∷ [] → (l == 117) ≡ false → short_escape l ≡ Some c → encode_utf8 c ≡ c ∷ [] → Piece c
unfolding escape_at
short c l whole other means one = escaped c (l ∷ []) whole (λ rest. rw (not_short (length rest), other, means) refl) one

within : (rest : List ℕ) (n k : ℕ) → n < k → k ≤ length rest → nat_lt n (length rest) ≡ true
within rest n k lt le = lt-ltb n (length rest) (omega arith)

hex_there : (rest : List ℕ) (n k v : ℕ) → n < k → k ≤ length rest → hex_digit (get_or rest n 0) ≡ Ok v → hex_at rest n ≡ Ok v
unfolding hex_at
hex_there rest n k v lt le is = rw (within rest n k lt le, is) refl

hex_of : (d : ℕ) → d < 16 → hex_digit (digit_char d) ≡ Ok d
hex_of d lt =
    let v = digit_value-digit_char d (omega arith) in
    rw (v, lt-ltb d 16 lt) refl

control_unit : (h l : ℕ) (rest : List ℕ) → h < 16 → l < 16 → unit_at (92 ∷ 117 ∷ 48 ∷ 48 ∷ digit_char h ∷ digit_char l ∷ rest) 2 ≡ Ok (0 * 4096 + 0 * 256 + h * 16 + l)
unfolding unit_at
control_unit h l rest hl ll =
    let s = 92 ∷ 117 ∷ 48 ∷ 48 ∷ digit_char h ∷ digit_char l ∷ rest in
    let long : 6 ≤ length s = omega arith in
    rw (hex_there s 2 6 0 (omega arith) long refl, hex_there s 3 6 0 (omega arith) long refl, hex_there s 4 6 h (omega arith) long (hex_of h hl), hex_there s 5 6 l (omega arith) long (hex_of l ll)) refl

control_read : (c : ℕ) (rest : List ℕ) → c < 32 → escape_at (92 ∷ 117 ∷ 48 ∷ 48 ∷ digit_char (c / 16) ∷ digit_char (c % 16) ∷ rest) ≡ Ok (c, 6)
unfolding escape_at unicode_at
control_read c rest low =
    let h = c / 16 in
    let l = c % 16 in
    let hl : h < 16 = omega arith in
    let ll : l < 16 = omega arith in
    let unit = control_unit h l rest hl ll in
    let value : 0 * 4096 + 0 * 256 + h * 16 + l ≡ c = omega arith in
    let high : is_high_surrogate c ≡ false = grind (arith, nat_tests) in
    let lower : is_low_surrogate c ≡ false = grind (arith, nat_tests) in
    let n : nat_lt (length (92 ∷ 117 ∷ 48 ∷ 48 ∷ digit_char (c / 16) ∷ digit_char (c % 16) ∷ rest)) 2 ≡ false = grind (arith, nat_tests) in
    rw (n, unit, value, high, lower) refl

control : (c : ℕ) → c < 32 → escape_letter c ≡ 0 → Piece c
unfolding escape_byte
control c low none =
    let first : nat_lt 0 (escape_letter c) ≡ false = ap (λ n. nat_lt 0 n) none in
    let second : nat_lt c 32 ≡ true = lt-ltb c 32 low in
    let whole : escape_byte c ≡ 92 ∷ 117 ∷ 48 ∷ 48 ∷ digit_char (c / 16) ∷ digit_char (c % 16) ∷ [] = rw (first, second) refl in
    escaped c (117 ∷ 48 ∷ 48 ∷ digit_char (c / 16) ∷ digit_char (c % 16) ∷ []) whole (λ rest. control_read c rest low) (encode_ascii c (omega arith))

module _ where
  piece_34 : Piece 34
  unfolding escape_byte short_escape
  piece_34 = short 34 34 refl refl refl (encode_ascii 34 (omega arith))

  piece_92 : Piece 92
  unfolding escape_byte short_escape
  piece_92 = short 92 92 refl refl refl (encode_ascii 92 (omega arith))

  piece_8 : Piece 8
  unfolding escape_byte short_escape
  piece_8 = short 8 98 refl refl refl (encode_ascii 8 (omega arith))

  piece_12 : Piece 12
  unfolding escape_byte short_escape
  piece_12 = short 12 102 refl refl refl (encode_ascii 12 (omega arith))

  piece_10 : Piece 10
  unfolding escape_byte short_escape
  piece_10 = short 10 110 refl refl refl (encode_ascii 10 (omega arith))

  piece_13 : Piece 13
  unfolding escape_byte short_escape
  piece_13 = short 13 114 refl refl refl (encode_ascii 13 (omega arith))

  piece_9 : Piece 9
  unfolding escape_byte short_escape
  piece_9 = short 9 116 refl refl refl (encode_ascii 9 (omega arith))

no_letter : (c : ℕ) → c ≢ 34 → c ≢ 92 → c ≢ 8 → c ≢ 12 → c ≢ 10 → c ≢ 13 → c ≢ 9 → escape_letter c ≡ 0
no_letter c a b d e f g h = rw (ne_eqb c 34 a, ne_eqb c 92 b, ne_eqb c 8 d, ne_eqb c 12 e, ne_eqb c 10 f, ne_eqb c 13 g, ne_eqb c 9 h) refl

-- the byte is that one, or another
either : (c d : ℕ) → Piece d → (c ≢ d → Piece c) → Piece c
either c d here other = ⊎_elim (λ e. subst Piece (sym e) here) other (cases_eq c d)

pub piece : (c : ℕ) → Piece c
piece c =
    either c 34 piece_34 (λ a. either c 92 piece_92 (λ b.
    ⊎_elim
    (λ low. either c 8 piece_8 (λ d. either c 12 piece_12 (λ e. either c 10 piece_10 (λ f. either c 13 piece_13 (λ g. either c 9 piece_9 (λ h. control c low (no_letter c a b d e f g h)))))))
    (λ high. let over : nat_lt c 32 ≡ false = grind (arith, nat_tests) in plain c over (ne_eqb c 34 a) (ne_eqb c 92 b))
    (cases_lt c 32)))
