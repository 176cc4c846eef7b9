-- No token is shorter than what is printed for it.
use Rattle.std.proofs.Common.{◌≡◌, ℕ, zero, suc, ◌+◌, ◌-◌, ◌<◌, ◌≤◌, Bool, true, false, cond, List, [], ◌∷◌, ◌++◌, length, get_or, take, drop, Option, Some, None, Result, Ok, Err, refl, sym, ap, ◌∙◌, subst, ⊎_elim, arith, pos, neg_ℤ, append-nil}
use Rattle.std.specs.Prelude.{◌||◌, nat_lt, ◌==◌, decimal}
use Rattle.std.specs.Fmt.{signed_decimal}
use Rattle.std.specs.List.{prefix_len, list_all}
use Rattle.std.specs.Char.{is_ascii_digit, encode_utf8}
use Rattle.std.proofs.lemmas.Bool.{false≢true, eqb-true, cases_lt}
use Rattle.std.proofs.lemmas.Bool.Decides.{nat_tests}
use Rattle.std.proofs.lemmas.Fmt.{length-decimal-le}
use Rattle.std.proofs.lemmas.Grind.{flat_map-append}
use Rattle.std.proofs.lemmas.List.{length-append, length-take, length-drop}
use Rattle.std.proofs.lemmas.List.Sums.{prefix_len-le-length}
use Rattle.std.proofs.lemmas.Str.{encode_ascii, inside_one, length-encode, len_utf8_bounds}
use Rattle.std.proofs.lemmas.Str.Parse.{digits_value_short}
use Rattle.json.specs.Print.{escape_byte, escape_letter, escape, quoted}
use Rattle.std.proofs.lemmas.Option.{none-some, same_Some}
use Rattle.arti_aql_lex.specs.Escape.{◌>>=◌, unit_at, byte_at, pair_at, unicode_at, short_escape, short_at, escape_at, is_high_surrogate, is_low_surrogate, surrogate_pair}
use Rattle.arti_aql_lex.specs.Lexed.{Lexed, finish, fault, token, begins, lexed}
use Rattle.arti_aql_lex.specs.Literal.{piece_len, piece_text, piece_width, escape_len, literal_end, literal_text, spoiled_at}
use Rattle.arti_aql_lex.specs.Tokens.{is_blank, is_name_start, is_name_byte, mark_of, sign_len, digits_end, number_end, token_to, mark_at, token_at, value_at}
use Rattle.arti_aql_lex.specs.declared.escape.Spoiled.{Spoiled}
use Rattle.arti_aql_lex.specs.declared.escape.Spoiled.TheVariants.{Cut, Malformed}
use Rattle.arti_aql_lex.specs.declared.token.LexFault.{LexFault}
use Rattle.arti_aql_lex.specs.declared.token.LexFault.TheVariants.{BadByte, OpenText}
use Rattle.arti_aql_lex.specs.declared.token.Token.{Token}
use Rattle.arti_aql_lex.specs.declared.token.TokenKind.{TokenKind}
use Rattle.arti_aql_lex.specs.declared.token.TokenKind.TheVariants.{Name, Words, Number, End}
use Rattle.arti_json.specs.Escapes.{has_escape}
use Rattle.arti_json.specs.EscapeLaws.{escape_byte-plain}
use Rattle.arti_aql_parse.specs.Words.{digits_value, number_of}
use Rattle.arti_aql_parse.proofs.SpelledTokens.{case, err_ok, ok_same, own, few_digits, front_all, digits_are, is_mark, mark_is}

-- how many bytes are printed for a token
abbrev pub cost : TokenKind → List ℕ → ℕ
cost Words value = length (quoted value)
cost Name value = length value
cost Number value = length (signed_decimal (number_of value))
cost End value = 0
cost _ value = 1

-- and for tokens
abbrev pub weight : Lexed → ℕ
weight (finish at) = 0
weight (fault f) = 0
weight (token b e kind value rest) = cost kind value + weight rest

-- the escape of a character has at most six bytes

high_escape : (xs : List ℕ) → ((k : ℕ) → k < length xs → 128 ≤ get_or xs k 0) → escape xs ≡ xs
high_escape [] h = refl
high_escape (x ∷ xs) h =
    let high : 128 ≤ x = h 0 (omega arith) in
    let none : has_escape x ≡ false = grind (arith, nat_tests) in
    ap (λ (l : List ℕ). l ++ escape xs) (escape_byte-plain x none) ∙ ap (λ (l : List ℕ). x ∷ l) (high_escape xs (λ k below. h (suc k) (omega arith)))

by_tests : (s t : Bool) (a b c : List ℕ) (n : ℕ) → length a ≤ n → length b ≤ n → length c ≤ n → length (cond s a (cond t b c)) ≤ n
by_tests true t a b c n x y z = x
by_tests false true a b c n x y z = y
by_tests false false a b c n x y z = z

byte_six : (x : ℕ) → length (escape_byte x) ≤ 6
unfolding escape_byte
byte_six x = by_tests (nat_lt 0 (escape_letter x)) (nat_lt x 32) _ _ _ 6 (omega arith) (omega arith) (omega arith)

six : (c : ℕ) → length (escape (encode_utf8 c)) ≤ 6
six c =
    ⊎_elim
    (λ small. subst (λ l. length (escape l) ≤ 6) (sym (encode_ascii c small)) (omega (arith, byte_six c, ap length (append-nil (escape_byte c)))))
    (λ big.
    let high : (k : ℕ) → k < length (encode_utf8 c) → 128 ≤ get_or (encode_utf8 c) k 0 = λ k below.
    ⊎_elim (λ low. absurd (omega (arith, inside_one c [] (encode_utf8 c) k (sym (append-nil (encode_utf8 c))) below low))) (λ h. h) (cases_lt (get_or (encode_utf8 c) k 0) 128) in
    omega (arith, ap length (high_escape (encode_utf8 c) high), length-encode c, len_utf8_bounds c))
    (cases_lt c 128)

-- what an escape stands for is printed no longer than it
abbrev Short : ℕ × ℕ → Type 0
Short e = (length (escape (encode_utf8 e.0)) ≤ e.1) × (1 ≤ e.1)

-- a step that may fail, and what follows it
steps : {A B E : Type 0} (r : Result A E) (f : A → Result B E) (y : B) (G : Type 0) → ((x : A) → r ≡ Ok x → f x ≡ Ok y → G) → (r >>= f) ≡ Ok y → G
steps (Ok x) f y G g h = g x refl h
steps (Err s) f y G g h = absurd (let never : Err s ≡ Ok y = h in cc)

-- a step that may be spoiled, and what follows it
then : {A B : Type 0} (r : Result A Spoiled) (f : A → Result B Spoiled) (y : B) (G : Type 0) → ((x : A) → f x ≡ Ok y → G) → (r >>= f) ≡ Ok y → G
then (Ok x) f y G g h = g x h
then (Err s) f y G g h = absurd (err_ok s y h)

two : (c : ℕ) → length (escape_byte c) ≤ 2 → c < 128 → length (escape (encode_utf8 c)) ≤ 2
two c few low = subst (λ l. length (escape l) ≤ 2) (sym (encode_ascii c low)) (omega (arith, few, ap length (append-nil (escape_byte c))))

short_by : (t : Bool) (d c : ℕ) (r : Option ℕ) → length (escape (encode_utf8 d)) ≤ 2 → (r ≡ Some c → length (escape (encode_utf8 c)) ≤ 2) → cond t (Some d) r ≡ Some c → length (escape (encode_utf8 c)) ≤ 2
short_by true d c r here more h = subst (λ k. length (escape (encode_utf8 k)) ≤ 2) (same_Some d c h) here
short_by false d c r here more h = more h

letter_two : (c d : ℕ) → c ≡ d → d < 128 → length (escape_byte d) ≤ 2 → length (escape (encode_utf8 c)) ≤ 2
letter_two c d is low few = subst (λ k. length (escape (encode_utf8 k)) ≤ 2) (sym is) (two d few low)

self_short : (c : ℕ) (a b d : Bool) → (c == 34) ≡ a → (c == 92) ≡ b → (c == 47) ≡ d → (a || (b || d)) ≡ true → length (escape (encode_utf8 c)) ≤ 2
unfolding escape_byte
self_short c true b d x y z h = letter_two c 34 (eqb-true c 34 x) (omega arith) (omega arith)
self_short c false true d x y z h = letter_two c 92 (eqb-true c 92 y) (omega arith) (omega arith)
self_short c false false true x y z h = letter_two c 47 (eqb-true c 47 z) (omega arith) (omega arith)
self_short c false false false x y z h = absurd (false≢true h)

short_is : (l c : ℕ) → short_escape l ≡ Some c → length (escape (encode_utf8 c)) ≤ 2
unfolding short_escape escape_byte
short_is l c h =
    case ((l == 34) || ((l == 92) || (l == 47))) _ _ (Some c) (length (escape (encode_utf8 c)) ≤ 2)
    (λ t e. subst (λ k. length (escape (encode_utf8 k)) ≤ 2) (same_Some l c e) (self_short l (l == 34) (l == 92) (l == 47) refl refl refl t))
    (λ t. short_by (l == 98) 8 c _ (two 8 (omega arith) (omega arith)) (short_by (l == 102) 12 c _ (two 12 (omega arith) (omega arith)) (short_by (l == 110) 10 c _ (two 10 (omega arith) (omega arith)) (short_by (l == 114) 13 c _ (two 13 (omega arith) (omega arith)) (short_by (l == 116) 9 c _ (two 9 (omega arith) (omega arith)) (λ e. absurd (none-some c e)))))))
    h

short_at_is : (o : Option ℕ) (e : ℕ × ℕ) → ((c : ℕ) → o ≡ Some c → length (escape (encode_utf8 c)) ≤ 2) → short_at o ≡ Ok e → Short e
short_at_is (Some c) e two h = subst Short (ok_same (short_at (Some c)) (c, 2) e refl h) (two c refl, omega arith)
short_at_is None e two h = absurd (err_ok Malformed e h)

long_is : (c n : ℕ) → 6 ≤ n → Short (c, n)
long_is c n le = (omega (arith, six c), omega arith)

pair_is : (rest : List ℕ) (high : ℕ) (e : ℕ × ℕ) → pair_at rest high ≡ Ok e → Short e
unfolding pair_at
pair_is rest high e h =
    then (byte_at rest 6 92) _ e (Short e) (λ a r. then (byte_at rest 7 117) _ e (Short e) (λ b q. then (unit_at rest 8) _ e (Short e)
    (λ low s. case (is_low_surrogate low) _ _ (Ok e) (Short e) (λ t u. subst Short (ok_same (Ok (surrogate_pair high low, 12)) (surrogate_pair high low, 12) e refl u) (long_is (surrogate_pair high low) 12 (omega arith))) (λ t u. absurd (err_ok Malformed e u)) s) q) r) h

unicode_is : (rest : List ℕ) (e : ℕ × ℕ) → unicode_at rest ≡ Ok e → Short e
unfolding unicode_at
unicode_is rest e h =
    then (unit_at rest 2) _ e (Short e) (λ unit r. case (is_high_surrogate unit) _ _ (Ok e) (Short e) (λ t q. pair_is rest unit e q)
    (λ t q. case (is_low_surrogate unit) _ _ (Ok e) (Short e) (λ t s. absurd (err_ok Malformed e s)) (λ t s. subst Short (ok_same (Ok (unit, 6)) (unit, 6) e refl s) (long_is unit 6 (omega arith))) q) r) h

escape_is : (rest : List ℕ) (e : ℕ × ℕ) → escape_at rest ≡ Ok e → Short e
unfolding escape_at
escape_is rest e h =
    case (nat_lt (length rest) 2) _ _ (Ok e) (Short e) (λ t r. absurd (err_ok Cut e r))
    (λ t r. case (get_or rest 1 0 == 117) _ _ (Ok e) (Short e) (λ u q. unicode_is rest e q) (λ u q. short_at_is (short_escape (get_or rest 1 0)) e (λ c s. short_is (get_or rest 1 0) c s) q) r) h

-- a piece of a text, which goes so far
record PieceIs (xs : List ℕ) (m : ℕ) : Type 0 where
  width : piece_width xs ≡ m
  short : length (escape (piece_text xs)) ≤ m
  some : 1 ≤ m

escaped_is : (o p m : ℕ) (r : Result (ℕ × ℕ) Spoiled) → escape_len o p r ≡ Ok m → (e : ℕ × ℕ) × (r ≡ Ok e) × (e.1 ≡ m)
escaped_is o p m (Ok e) h = (e, refl, ok_same (Ok e.1) e.1 m refl h)
escaped_is o p m (Err s) h = absurd (err_ok (spoiled_at o p s) m h)

slash_piece : (b : ℕ) (bs : List ℕ) (m : ℕ) (e : ℕ × ℕ) → (b == 92) ≡ true → escape_at (b ∷ bs) ≡ Ok e → e.1 ≡ m → Short e → PieceIs (b ∷ bs) m
unfolding piece_text piece_width
slash_piece b bs m e slash read long short =
    let width : piece_width (b ∷ bs) ≡ e.1 = rw (slash, read) refl in
    let text : piece_text (b ∷ bs) ≡ encode_utf8 e.0 = rw (slash, read) refl in
    record { width = width ∙ long; short = omega (arith, ap (λ l. length (escape l)) text, short.0, long); some = omega (arith, short.1, long) }

piece_is : (o p b : ℕ) (bs : List ℕ) (m : ℕ) → (b == 34) ≡ false → piece_len o p (b ∷ bs) ≡ Ok m → PieceIs (b ∷ bs) m
unfolding piece_len piece_text piece_width
piece_is o p b bs m quote h =
    case (nat_lt b 32) _ _ (Ok m) (PieceIs (b ∷ bs) m) (λ t r. absurd (err_ok (BadByte p) m r))
    (λ high r. case (b == 92) _ _ (Ok m) (PieceIs (b ∷ bs) m)
    (λ slash q. let x = escaped_is o p m (escape_at (b ∷ bs)) q in slash_piece b bs m x.0 slash x.1 x.2 (escape_is (b ∷ bs) x.0 x.1))
    (λ other q.
    let one : 1 ≡ m = ok_same (Ok 1) 1 m refl q in
    let width : piece_width (b ∷ bs) ≡ 1 = rw other refl in
    let text : piece_text (b ∷ bs) ≡ b ∷ [] = rw other refl in
    let plain : has_escape b ≡ false = rw (high, quote, other) refl in
    let long : length (escape (b ∷ [])) ≡ 1 = ap (λ l. length (l ++ [])) (escape_byte-plain b plain) in
    record { width = width ∙ one; short = omega (arith, ap (λ l. length (escape l)) text, long, one); some = omega (arith, one) })
    r)
    h

literal_is : (ys : List ℕ) (o q n e : ℕ) → literal_end o q n ys ≡ Ok e → (length (escape (literal_text n ys)) + q + n + 1 ≤ e) × (e ≤ q + length ys)
unfolding literal_end literal_text
literal_is [] o q n e h = absurd (err_ok (OpenText o) e h)
literal_is (b ∷ bs) o q (suc n) e h = let i = literal_is bs o (q + 1) n e h in (omega (arith, i.0), omega (arith, i.1))
literal_is (b ∷ bs) o q zero e h =
    let G = (length (escape (literal_text 0 (b ∷ bs))) + q + 0 + 1 ≤ e) × (e ≤ q + length (b ∷ bs)) in
    case (b == 34) _ _ (Ok e) G
    (λ quote r.
    let last : q + 1 ≡ e = ok_same (Ok (q + 1)) (q + 1) e refl r in
    let text : literal_text 0 (b ∷ bs) ≡ [] = rw quote refl in
    (omega (arith, ap (λ l. length (escape l)) text, last), omega (arith, last)))
    (λ other r. steps (piece_len o q (b ∷ bs)) (λ n. literal_end o (q + 1) (n - 1) bs) e G
    (λ m is s.
    let x = piece_is o q b bs m other is in
    let i = literal_is bs o (q + 1) (m - 1) e s in
    let front = piece_text (b ∷ bs) in
    let rest = literal_text (m - 1) bs in
    let text : literal_text 0 (b ∷ bs) ≡ front ++ literal_text (piece_width (b ∷ bs) - 1) bs = rw other refl in
    let whole : literal_text 0 (b ∷ bs) ≡ front ++ rest = text ∙ ap (λ k. front ++ literal_text (k - 1) bs) x.width in
    let long : length (escape (literal_text 0 (b ∷ bs))) ≡ length (escape front) + length (escape rest) =
    ap (λ l. length (escape l)) whole ∙ ap length (flat_map-append escape_byte front rest) ∙ length-append (escape front) (escape rest) in
    (omega (arith, long, x.short, x.some, i.0), omega (arith, i.1)))
    r)
    h

-- what a token costs, and that it lies within the bytes
record Span (xs : List ℕ) (t : Token) : Type 0 where
  cheap : cost t.kind (value_at t xs) ≤ t.end - t.start
  within : t.end - t.start ≤ length xs

span_end : (xs : List ℕ) (kind : TokenKind) (p : ℕ) (r : Result ℕ LexFault) (t : Token) → ((e : ℕ) → r ≡ Ok e → Span xs (record { kind = kind; start = p; end = e })) → token_to kind p r ≡ Ok t → Span xs t
span_end xs kind p (Err f) t span h = absurd (err_ok f t h)
span_end xs kind p (Ok e) t span h = subst (Span xs) (ok_same (Ok (record { kind = kind; start = p; end = e })) (record { kind = kind; start = p; end = e }) t refl h) (span e refl)

decimal_short : (ds : List ℕ) → list_all is_ascii_digit ds ≡ true → 0 < length ds → length ds ≤ 18 → length (decimal (digits_value ds)) ≤ length ds
decimal_short ds all some few = length-decimal-le (length ds) (digits_value ds) some (digits_value_short own ds (length ds) all (omega arith)) (omega (arith, few_digits ds all few))

neg_short : (v k : ℕ) → length (decimal v) ≤ k → length (signed_decimal (neg_ℤ (pos v))) ≤ suc k
neg_short zero k le = omega (arith, le)
neg_short (suc v) k le = omega (arith, le)

number_span : (p e : ℕ) (xs : List ℕ) → number_end p xs ≡ Ok e → Span xs (record { kind = Number; start = p; end = e })
unfolding number_end number_of
number_span p e [] h = let x = digits_are p [] 0 0 e h in absurd (omega (arith, x.some))
number_span p e (d ∷ ds) h = by_sign (d == 45) refl
  where
    by_sign : (t : Bool) → (d == 45) ≡ t → Span (d ∷ ds) (record { kind = Number; start = p; end = e })
    by_sign true is =
        let n = prefix_len is_ascii_digit ds in
        let minus : d ≡ 45 = eqb-true d 45 is in
        let end : digits_end p (45 ∷ ds) 1 n ≡ Ok e = ap (λ b. number_end p (b ∷ ds)) (sym minus) ∙ h in
        let x = digits_are p (45 ∷ ds) 1 n e end in
        let count : e - p ≡ suc n = omega (arith, x.last) in
        let w = take n ds in
        let inside : n ≤ length ds = prefix_len-le-length is_ascii_digit ds in
        let long : length w ≡ n = omega (arith, length-take n ds, inside) in
        let short : length (decimal (digits_value w)) ≤ n = omega (arith, long, decimal_short w (front_all is_ascii_digit ds) (omega (arith, long, x.some)) (omega (arith, long, x.few))) in
        let cheap : length (signed_decimal (number_of (45 ∷ w))) ≤ suc n = neg_short (digits_value w) n short in
        record {
          cheap = subst (λ k. length (signed_decimal (number_of (take k (d ∷ ds)))) ≤ k) (sym count) (subst (λ b. length (signed_decimal (number_of (b ∷ w))) ≤ suc n) (sym minus) cheap);
          within = omega (arith, count, inside);
        }
    by_sign false is =
        let xs = d ∷ ds in
        let n = prefix_len is_ascii_digit xs in
        let sign : sign_len xs ≡ 0 = rw is refl in
        let end : digits_end p xs 0 n ≡ Ok e = ap (λ s. digits_end p xs s (prefix_len is_ascii_digit (drop s xs))) (sym sign) ∙ h in
        let x = digits_are p xs 0 n e end in
        let k = n - 1 in
        let count : e - p ≡ suc k = omega (arith, x.last, x.some) in
        let same : n ≡ suc k = omega (arith, x.some) in
        let inside : n ≤ length xs = prefix_len-le-length is_ascii_digit xs in
        let v = take n xs in
        let long : length v ≡ n = omega (arith, length-take n xs, inside) in
        let short : length (decimal (digits_value v)) ≤ n = omega (arith, long, decimal_short v (front_all is_ascii_digit xs) (omega (arith, long, x.some)) (omega (arith, long, x.few))) in
        let whole : v ≡ d ∷ take k ds = ap (λ m. take m xs) same in
        let number : number_of (d ∷ take k ds) ≡ pos (digits_value (d ∷ take k ds)) = rw is refl in
        let cheap : length (signed_decimal (number_of (d ∷ take k ds))) ≤ suc k = omega (arith, ap (λ z. length (signed_decimal z)) number, ap (λ l. length (decimal (digits_value l))) whole, short, same) in
        record {
          cheap = subst (λ m. length (signed_decimal (number_of (take m xs))) ≤ m) (sym count) cheap;
          within = omega (arith, count, inside, same);
        }

pub mark_cost : (kind : TokenKind) (value : List ℕ) → is_mark kind ≡ true → cost kind value ≡ 1
mark_cost Name value h = absurd (false≢true h)
mark_cost Words value h = absurd (false≢true h)
mark_cost Number value h = absurd (false≢true h)
mark_cost End value h = absurd (false≢true h)
mark_cost _ value h = refl

mark_span : (xs : List ℕ) (p : ℕ) (m : Option TokenKind) (t : Token) → 0 < length xs → mark_of (get_or xs 0 0) ≡ m → mark_at p m ≡ Ok t → Span xs t
mark_span xs p None t some is h = absurd (err_ok (BadByte p) t h)
mark_span xs p (Some kind) t some is h = span_end xs kind p (Ok (p + 1)) t (λ e r.
    let last : p + 1 ≡ e = ok_same (Ok (p + 1)) (p + 1) e refl r in
    record { cheap = omega (arith, mark_cost kind (value_at (record { kind = kind; start = p; end = e }) xs) (mark_is (get_or xs 0 0) kind is), last); within = omega (arith, last, some) })
    h

words_span : (xs : List ℕ) (p e : ℕ) → 0 < length xs → literal_end p (p + 1) 0 (drop 1 xs) ≡ Ok e → Span xs (record { kind = Words; start = p; end = e })
words_span xs p e some end =
    let x = literal_is (drop 1 xs) p (p + 1) 0 e end in
    let text = literal_text 0 (drop 1 xs) in
    record { cheap = omega (arith, x.0, length-append (escape text) (34 ∷ [])); within = omega (arith, x.1, length-drop 1 xs, some) }

token_span : (p : ℕ) (xs : List ℕ) (t : Token) → 0 < length xs → token_at p xs ≡ Ok t → Span xs t
unfolding token_at
token_span p xs t some h =
    case (length xs == 0) _ _ (Ok t) (Span xs t) (λ c r. absurd (omega (arith, some, eqb-true (length xs) 0 c)))
    (λ c r. case (is_name_start (get_or xs 0 0)) _ _ (Ok t) (Span xs t) (λ first q. span_end xs Name p (Ok (p + prefix_len is_name_byte xs)) t
    (λ e s.
    let last : p + prefix_len is_name_byte xs ≡ e = ok_same (Ok (p + prefix_len is_name_byte xs)) (p + prefix_len is_name_byte xs) e refl s in
    record { cheap = omega (arith, length-take (e - p) xs); within = omega (arith, last, prefix_len-le-length is_name_byte xs) }) q)
    (λ c q. case (is_ascii_digit (get_or xs 0 0) || (get_or xs 0 0 == 45)) _ _ (Ok t) (Span xs t) (λ c s. span_end xs Number p (number_end p xs) t (λ e end. number_span p e xs end) s)
    (λ c s. case (get_or xs 0 0 == 34) _ _ (Ok t) (Span xs t) (λ c u. span_end xs Words p (literal_end p (p + 1) 0 (drop 1 xs)) t (λ e end. words_span xs p e some end) u)
    (λ c u. mark_span xs p (mark_of (get_or xs 0 0)) t some refl u)
    s)
    q)
    r)
    h

begins_weight : (r : Result Token LexFault) (b : ℕ) (bs : List ℕ) (more : ℕ → Lexed) → ((t : Token) → r ≡ Ok t → Span (b ∷ bs) t) → ((n : ℕ) → weight (more n) ≤ length bs - n) → weight (begins r (b ∷ bs) more) ≤ suc (length bs)
begins_weight (Ok t) b bs more span later = let s = span t refl in omega (arith, s.cheap, s.within, later (t.end - t.start - 1))
begins_weight (Err f) b bs more span later = omega arith

either_weight : (t : Bool) (x y : Lexed) (n : ℕ) → weight x ≤ n → weight y ≤ n → weight (cond t x y) ≤ n
either_weight true x y n a b = a
either_weight false x y n a b = b

-- the tokens of a text cost no more than its bytes
pub lexed_weight : (xs : List ℕ) (p n : ℕ) → weight (lexed p n xs) ≤ length xs - n
unfolding lexed
lexed_weight [] p n = omega arith
lexed_weight (b ∷ bs) p (suc n) = let i = lexed_weight bs (p + 1) n in omega (arith, i)
lexed_weight (b ∷ bs) p zero =
    let i = lexed_weight bs (p + 1) 0 in
    let whole = either_weight (is_blank b) (lexed (p + 1) 0 bs) (begins (token_at p (b ∷ bs)) (b ∷ bs) (λ n. lexed (p + 1) n bs)) (suc (length bs)) (omega (arith, i))
    (begins_weight (token_at p (b ∷ bs)) b bs (λ n. lexed (p + 1) n bs) (λ t h. token_span p (b ∷ bs) t (omega arith) h) (λ n. lexed_weight bs (p + 1) n)) in
    omega (arith, whole)
