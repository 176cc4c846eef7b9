-- What the names and the numbers among the tokens of a text are.
use Rattle.std.proofs.Common.{◌≡◌, ◌≢◌, ℕ, zero, suc, ◌+◌, ◌-◌, ◌*◌, ◌^◌, ◌<◌, ◌≤◌, Bool, true, false, cond, List, [], ◌∷◌, length, get_or, take, drop, Option, Some, None, Result, Ok, Err, refl, sym, ap, ◌∙◌, subst, arith, rules, pos, neg_ℤ, fold, one-add}
use Rattle.std.specs.Prelude.{◌||◌, ◌&&◌, nat_lt, ◌==◌, unsigned_abs}
use Rattle.std.specs.List.{prefix_len, list_all}
use Rattle.std.specs.Char.{is_ascii_digit}
use Rattle.std.proofs.lemmas.Bool.{false≢true, eq-eqb, eqb-true, ltb-false}
use Rattle.std.proofs.lemmas.Bool.Decides.{nat_tests}
use Rattle.std.proofs.lemmas.List.{length-take}
use Rattle.std.proofs.lemmas.Str.Parse.{IsNumeralModel, numerals_by_fold, digits_value_short}
use Rattle.std.proofs.lemmas.Option.{none-some, same_Some}
use Rattle.arti_aql_lex.specs.Lexed.{Lexed, finish, fault, token, begins, lexed}
use Rattle.arti_aql_lex.specs.Literal.{literal_end}
use Rattle.arti_aql_lex.specs.Tokens.{is_blank, is_name_start, is_name_byte, mark_of, sign_len, digits_end, number_end, token_to, mark_at, token_at, value_at}
use Rattle.arti_aql_lex.specs.declared.token.LexFault.{LexFault}
use Rattle.arti_aql_lex.specs.declared.token.LexFault.TheVariants.{BadByte}
use Rattle.arti_aql_lex.specs.declared.token.Token.{Token}
use Rattle.arti_aql_lex.specs.declared.token.TokenKind.{TokenKind}
use Rattle.arti_aql_lex.specs.declared.token.TokenKind.TheVariants.{Name, Words, Number, Dot, Open, Close, ObjectOpen, ObjectClose, ListOpen, ListClose, Colon, Comma, End}
use Rattle.arti_aql_parse.specs.Front.{kind_at, first_value, tail}
use Rattle.arti_aql_parse.specs.Spellable.{IsName, IsShort}
use Rattle.arti_aql_parse.specs.Words.{digits_value, number_of, natural_of}

-- a name is one, and a number has few digits
pub record SoundToken (kind : TokenKind) (value : List ℕ) : Type 0 where
  pub name : kind ≡ Name → IsName value
  pub number : kind ≡ Number → IsShort (unsigned_abs (number_of value))
  pub natural : kind ≡ Number → (n : ℕ) → natural_of value ≡ Some n → IsShort n

abbrev pub Sound : Lexed → Type 0
Sound (finish at) = Unit {0}
Sound (fault f) = Unit {0}
Sound (token s e kind value rest) = SoundToken kind value × Sound rest

pub own : IsNumeralModel (λ ds. list_all is_ascii_digit ds ≡ true) (λ ds. fold (λ n b. n * 10 + (b - 48)) 0 ds)
own = numerals_by_fold _ (search rules) (λ n ds. fold (λ m b. m * 10 + (b - 48)) n ds) (search rules)

pub few_digits : (ds : List ℕ) → list_all is_ascii_digit ds ≡ true → length ds ≤ 18 → digits_value ds < 10 ^ 18
few_digits ds all few = digits_value_short own ds 18 all few

front_step : (q : ℕ → Bool) (x : ℕ) (xs : List ℕ) (t : Bool) → q x ≡ t → list_all q (take (prefix_len q xs) xs) ≡ true → list_all q (take (prefix_len q (x ∷ xs)) (x ∷ xs)) ≡ true
front_step q x xs true e more =
    let n : prefix_len q (x ∷ xs) ≡ suc (prefix_len q xs) = rw (e, one-add) refl in
    ap (λ k. list_all q (take k (x ∷ xs))) n ∙ rw e more
front_step q x xs false e more = let n : prefix_len q (x ∷ xs) ≡ 0 = rw e refl in ap (λ k. list_all q (take k (x ∷ xs))) n

pub front_all : (q : ℕ → Bool) (xs : List ℕ) → list_all q (take (prefix_len q xs) xs) ≡ true
front_all q [] = refl
front_all q (x ∷ xs) = front_step q x xs (q x) refl (front_all q xs)

name_byte : (b : ℕ) → is_name_start b ≡ true → is_name_byte b ≡ true
name_byte b h = grind (arith, nat_tests)

name_is : (p : ℕ) (xs : List ℕ) → is_name_start (get_or xs 0 0) ≡ true → IsName (take (p + prefix_len is_name_byte xs - p) xs)
name_is p [] h = absurd (false≢true h)
name_is p (b ∷ bs) h =
    let n = prefix_len is_name_byte bs in
    let long : prefix_len is_name_byte (b ∷ bs) ≡ suc n = rw (name_byte b h, one-add) refl in
    let count : p + prefix_len is_name_byte (b ∷ bs) - p ≡ prefix_len is_name_byte (b ∷ bs) = omega arith in
    subst (λ k. IsName (take k (b ∷ bs))) (sym count) (record {
      first = ap (λ k. is_name_start (get_or (take k (b ∷ bs)) 0 0)) long ∙ h;
      each = front_all is_name_byte (b ∷ bs);
    })

-- what follows from a choice, by its test
pub case : {A : Type 0} (b : Bool) (x y z : A) (G : Type 0) → (b ≡ true → x ≡ z → G) → (b ≡ false → y ≡ z → G) → cond b x y ≡ z → G
case true x y z G f g h = f refl h
case false x y z G f g h = g refl h

not_zero : (n : ℕ) → (n == 0) ≡ false → 0 < n
not_zero n h = let some : n ≢ 0 = λ z. false≢true (sym h ∙ eq-eqb n 0 z) in omega arith

pub err_ok : {A E : Type 0} (f : E) (x : A) → Err f ≡ Ok x → ⊥
err_ok f x h = cc

pub ok_same : {A E : Type 0} (r : Result A E) (x y : A) → r ≡ Ok x → r ≡ Ok y → x ≡ y
ok_same r x y h k = let same : Ok x ≡ Ok y = sym h ∙ k in cc

pub record Digits (p sign n e : ℕ) : Type 0 where
  pub last : e ≡ p + sign + n
  pub some : 0 < n
  pub few : n ≤ 18

pub digits_are : (p : ℕ) (xs : List ℕ) (sign n e : ℕ) → digits_end p xs sign n ≡ Ok e → Digits p sign n e
digits_are p xs sign n e h =
    case (n == 0) _ _ (Ok e) (Digits p sign n e) (λ t r. absurd (err_ok (BadByte p) e r))
    (λ some r. case ((get_or xs sign 0 == 48) && nat_lt 1 n) _ _ (Ok e) (Digits p sign n e) (λ t q. absurd (err_ok (BadByte (p + sign)) e q))
    (λ t q. case (nat_lt 18 n) _ _ (Ok e) (Digits p sign n e) (λ t s. absurd (err_ok (BadByte (p + sign + 18)) e s))
    (λ few s. record { last = ok_same (Ok (p + sign + n)) e (p + sign + n) s refl; some = not_zero n some; few = ltb-false 18 n few })
    q)
    r)
    h

abs_neg : (m : ℕ) → unsigned_abs (neg_ℤ (pos m)) ≡ m
abs_neg zero = refl
abs_neg (suc m) = refl

-- what is wanted of the value of a number
record ShortNumber (value : List ℕ) : Type 0 where
  number : IsShort (unsigned_abs (number_of value))
  natural : (n : ℕ) → natural_of value ≡ Some n → IsShort n

minus_short : (w : List ℕ) → digits_value w < 10 ^ 18 → ShortNumber (45 ∷ w)
unfolding number_of natural_of
minus_short w small = record {
  number = subst (λ k. k < 10 ^ 18) (sym (abs_neg (digits_value w))) small;
  natural = λ n h. case (digits_value w == 0) (Some 0) None (Some n) (n < 10 ^ 18) (λ z e. omega (arith, same_Some 0 n e)) (λ z e. absurd (none-some n e)) h;
}

plain_short : (d : ℕ) (w : List ℕ) → (d == 45) ≡ false → digits_value (d ∷ w) < 10 ^ 18 → ShortNumber (d ∷ w)
unfolding number_of natural_of
plain_short d w other small =
    let number : number_of (d ∷ w) ≡ pos (digits_value (d ∷ w)) = rw other refl in
    let natural : natural_of (d ∷ w) ≡ Some (digits_value (d ∷ w)) = rw other refl in
    record {
      number = subst (λ z. unsigned_abs z < 10 ^ 18) (sym number) small;
      natural = λ n h. subst (λ k. k < 10 ^ 18) (same_Some (digits_value (d ∷ w)) n (sym natural ∙ h)) small;
    }

number_is : (p e : ℕ) (xs : List ℕ) → number_end p xs ≡ Ok e → ShortNumber (take (e - p) xs)
unfolding number_end
number_is p e [] h = let x = digits_are p [] 0 0 e h in absurd (omega (arith, x.some))
number_is p e (d ∷ ds) h = by_sign (d == 45) refl
  where
    by_sign : (t : Bool) → (d == 45) ≡ t → ShortNumber (take (e - p) (d ∷ ds))
    by_sign true is =
        let n = prefix_len is_ascii_digit ds in
        let minus : d ≡ 45 = eqb-true d 45 is in
        let end : digits_end p (45 ∷ ds) 1 n ≡ Ok e = ap (λ b. number_end p (b ∷ ds)) (sym minus) ∙ h in
        let x = digits_are p (45 ∷ ds) 1 n e end in
        let count : e - p ≡ suc n = omega (arith, x.last) in
        let w = take n ds in
        let few : length w ≤ 18 = omega (arith, length-take n ds, x.few) in
        subst (λ k. ShortNumber (take k (d ∷ ds))) (sym count) (subst (λ b. ShortNumber (b ∷ w)) (sym minus) (minus_short w (few_digits w (front_all is_ascii_digit ds) few)))
    by_sign false is =
        let xs = d ∷ ds in
        let n = prefix_len is_ascii_digit xs in
        let sign : sign_len xs ≡ 0 = rw is refl in
        let end : digits_end p xs 0 n ≡ Ok e = ap (λ s. digits_end p xs s (prefix_len is_ascii_digit (drop s xs))) (sym sign) ∙ h in
        let x = digits_are p xs 0 n e end in
        let k = n - 1 in
        let count : e - p ≡ suc k = omega (arith, x.last, x.some) in
        let same : n ≡ suc k = omega (arith, x.some) in
        let few : length (take n xs) ≤ 18 = omega (arith, length-take n xs, x.few) in
        let small : digits_value (take n xs) < 10 ^ 18 = few_digits (take n xs) (front_all is_ascii_digit xs) few in
        subst (λ m. ShortNumber (take m xs)) (sym count) (plain_short d (take k ds) is (subst (λ m. digits_value (take m xs) < 10 ^ 18) same small))

name_sound : (value : List ℕ) → IsName value → SoundToken Name value
name_sound value is = record {
  name = λ e. is;
  number = λ e. absurd (let never : Name ≡ Number = e in cc);
  natural = λ e. absurd (let never : Name ≡ Number = e in cc);
}

number_sound : (value : List ℕ) → ShortNumber value → SoundToken Number value
number_sound value x = record { name = λ e. absurd (let never : Number ≡ Name = e in cc); number = λ e. x.number; natural = λ e. x.natural }

other_sound : (kind : TokenKind) (value : List ℕ) → kind ≢ Name → kind ≢ Number → SoundToken kind value
other_sound kind value name number = record { name = λ e. absurd (name e); number = λ e. absurd (number e); natural = λ e. absurd (number e) }

abbrev pub is_mark : TokenKind → Bool
is_mark Name = false
is_mark Words = false
is_mark Number = false
is_mark End = false
is_mark _ = true

by_mark : (t : Bool) (m k : TokenKind) (r : Option TokenKind) → is_mark m ≡ true → (r ≡ Some k → is_mark k ≡ true) → cond t (Some m) r ≡ Some k → is_mark k ≡ true
by_mark true m k r here more e = let is : m ≡ k = cc in ap is_mark (sym is) ∙ here
by_mark false m k r here more e = more e

pub mark_is : (b : ℕ) (k : TokenKind) → mark_of b ≡ Some k → is_mark k ≡ true
unfolding mark_of
mark_is b k = by_mark (b == 46) Dot k _ refl (by_mark (b == 40) Open k _ refl (by_mark (b == 41) Close k _ refl (by_mark (b == 123) ObjectOpen k _ refl (by_mark (b == 125) ObjectClose k _ refl (by_mark (b == 91) ListOpen k _ refl (by_mark (b == 93) ListClose k _ refl (by_mark (b == 58) Colon k _ refl (by_mark (b == 44) Comma k _ refl (λ never. let none : None ≡ Some k = never in cc)))))))))

mark_sound : (b : ℕ) (kind : TokenKind) (value : List ℕ) → mark_of b ≡ Some kind → SoundToken kind value
mark_sound b kind value h =
    let is = mark_is b kind h in
    other_sound kind value (λ e. false≢true (ap is_mark (sym e) ∙ is)) (λ e. false≢true (ap is_mark (sym e) ∙ is))

abbrev SoundAt : List ℕ → Token → Type 0
SoundAt xs t = SoundToken t.kind (value_at t xs)

by_end : (xs : List ℕ) (kind : TokenKind) (p : ℕ) (r : Result ℕ LexFault) (t : Token) → ((e : ℕ) → r ≡ Ok e → SoundAt xs (record { kind = kind; start = p; end = e })) → token_to kind p r ≡ Ok t → SoundAt xs t
by_end xs kind p (Err f) t sound h = absurd (err_ok f t h)
by_end xs kind p (Ok e) t sound h = subst (SoundAt xs) (ok_same (Ok (record { kind = kind; start = p; end = e })) (record { kind = kind; start = p; end = e }) t refl h) (sound e refl)

by_mark_at : (xs : List ℕ) (b p : ℕ) (m : Option TokenKind) (t : Token) → mark_of b ≡ m → mark_at p m ≡ Ok t → SoundAt xs t
by_mark_at xs b p None t is h = absurd (err_ok (BadByte p) t h)
by_mark_at xs b p (Some kind) t is h = by_end xs kind p (Ok (p + 1)) t (λ e r. mark_sound b kind _ is) h

token_sound : (p : ℕ) (xs : List ℕ) (t : Token) → token_at p xs ≡ Ok t → SoundAt xs t
unfolding token_at
token_sound p xs t h =
    case (length xs == 0) _ _ (Ok t) (SoundAt xs t) (λ c r. by_end xs End p (Ok p) t (λ e q. other_sound End _ (λ s. let never : End ≡ Name = s in cc) (λ s. let never : End ≡ Number = s in cc)) r)
    (λ c r. case (is_name_start (get_or xs 0 0)) _ _ (Ok t) (SoundAt xs t) (λ first q. by_end xs Name p (Ok (p + prefix_len is_name_byte xs)) t
    (λ e s. subst (λ k. SoundToken Name (take (k - p) xs)) (ok_same (Ok (p + prefix_len is_name_byte xs)) (p + prefix_len is_name_byte xs) e refl s) (name_sound _ (name_is p xs first))) q)
    (λ c q. case (is_ascii_digit (get_or xs 0 0) || (get_or xs 0 0 == 45)) _ _ (Ok t) (SoundAt xs t) (λ c s. by_end xs Number p (number_end p xs) t (λ e end. number_sound _ (number_is p e xs end)) s)
    (λ c s. case (get_or xs 0 0 == 34) _ _ (Ok t) (SoundAt xs t) (λ c u. by_end xs Words p (literal_end p (p + 1) 0 (drop 1 xs)) t (λ e end. other_sound Words _ (λ v. let never : Words ≡ Name = v in cc) (λ v. let never : Words ≡ Number = v in cc)) u)
    (λ c u. by_mark_at xs (get_or xs 0 0) p (mark_of (get_or xs 0 0)) t refl u)
    s)
    q)
    r)
    h

begins_sound : (r : Result Token LexFault) (xs : List ℕ) (more : ℕ → Lexed) → ((t : Token) → r ≡ Ok t → SoundAt xs t) → ((n : ℕ) → Sound (more n)) → Sound (begins r xs more)
begins_sound (Ok t) xs more sound later = (sound t refl, later (t.end - t.start - 1))
begins_sound (Err f) xs more sound later = tt

either_sound : (t : Bool) (x y : Lexed) → Sound x → Sound y → Sound (cond t x y)
either_sound true x y a b = a
either_sound false x y a b = b

pub lexed_sound : (xs : List ℕ) (p n : ℕ) → Sound (lexed p n xs)
unfolding lexed
lexed_sound [] p n = tt
lexed_sound (b ∷ bs) p (suc n) = lexed_sound bs (p + 1) n
lexed_sound (b ∷ bs) p zero =
    either_sound (is_blank b) (lexed (p + 1) 0 bs) (begins (token_at p (b ∷ bs)) (b ∷ bs) (λ n. lexed (p + 1) n bs)) (lexed_sound bs (p + 1) 0)
    (begins_sound (token_at p (b ∷ bs)) (b ∷ bs) (λ n. lexed (p + 1) n bs) (λ t h. token_sound p (b ∷ bs) t h) (λ n. lexed_sound bs (p + 1) n))

pub sound_tail : (a : Lexed) → Sound a → Sound (tail a)
sound_tail (finish at) s = tt
sound_tail (fault f) s = tt
sound_tail (token b e kind value rest) s = s.1

pub sound_name : (a : Lexed) → Sound a → kind_at a ≡ Some Name → IsName (first_value a)
sound_name (finish at) s h = absurd (let never : Some End ≡ Some Name = h in cc)
sound_name (fault f) s h = absurd (let never : None ≡ Some Name = h in cc)
sound_name (token b e kind value rest) s h = s.0.name (let is : Some kind ≡ Some Name = h in cc)

pub sound_natural : (a : Lexed) → Sound a → kind_at a ≡ Some Number → (n : ℕ) → natural_of (first_value a) ≡ Some n → IsShort n
sound_natural (finish at) s h = absurd (let never : Some End ≡ Some Number = h in cc)
sound_natural (fault f) s h = absurd (let never : None ≡ Some Number = h in cc)
sound_natural (token b e kind value rest) s h = s.0.natural (let is : Some kind ≡ Some Number = h in cc)
