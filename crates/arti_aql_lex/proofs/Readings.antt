-- What a token that was read stands on, kind by kind.
use Rattle.std.proofs.Common.{◌≡◌, ◌≢◌, ℕ, ◌+◌, ◌-◌, ◌<◌, ◌≤◌, ◌⊎◌, Bool, true, false, cond, ◌&&◌, ◌||◌, ◌==◌, nat_lt, List, length, get_or, take, drop, Option, Some, None, Result, Ok, Err, refl, sym, ap, ◌∙◌, subst, inl, inr, ⊎_elim, arith, IsUtf8, add-zero, ltb-false}
use Rattle.std.specs.List.{prefix_len}
use Rattle.std.specs.Char.{is_ascii_digit}
use Rattle.std.specs.Str.{IsCharBoundary}
use Rattle.std.proofs.lemmas.List.{get_or-take, get_or-drop, get_or_past, length-take, length-drop, drop-drop}
use Rattle.std.proofs.lemmas.List.Sums.{prefix_len_passes, prefix_len-le-length}
use Rattle.std.proofs.lemmas.Str.{IsUtf8-from_ascii, IsCharBoundary-after_ascii}
use Rattle.std.proofs.lemmas.Bool.{false≢true, eqb-true, eq-eqb, cases_lt}
use Rattle.std.proofs.lemmas.Bool.Decides.{nat_tests}
use Rattle.std.proofs.lemmas.Option.{none-some, same_Some}
use Rattle.arti_aql_lex.specs.Literal.{literal_end, literal_text, IsClosed}
use Rattle.arti_aql_lex.specs.Tokens.{is_name_start, is_name_byte, mark_of, sign_len, digits_end, number_end, token_to, mark_at, token_at, is_words, text_of, HasToken, IsNumber, is_number}
use Rattle.arti_aql_lex.specs.declared.token.LexFault.{LexFault}
use Rattle.arti_aql_lex.specs.declared.token.LexFault.TheVariants.{BadByte}
use Rattle.arti_aql_lex.specs.declared.token.Token.{Token}
use Rattle.arti_aql_lex.specs.declared.token.TokenKind.{TokenKind}
use Rattle.arti_aql_lex.specs.declared.token.TokenKind.TheVariants.{Name, Words, Number, Dot, Open, Close, ObjectOpen, ObjectClose, ListOpen, ListClose, Colon, Comma, End}

chosen : {A : Type 0} (b : Bool) (x y z : A) → cond b x y ≡ z → ((b ≡ true) × (x ≡ z)) ⊎ ((b ≡ false) × (y ≡ z))
chosen true x y z e = inl (refl, e)
chosen false x y z e = inr (refl, e)

pub data At (p : ℕ) (rest : List ℕ) (t : Token) : Type 0 where
  at_end : length rest ≡ 0 → t.kind ≡ End → t.end ≡ p → At p rest t
  at_name : is_name_start (get_or rest 0 0) ≡ true → t.kind ≡ Name → t.end ≡ p + prefix_len is_name_byte rest → At p rest t
  at_number : number_end p rest ≡ Ok t.end → t.kind ≡ Number → At p rest t
  at_words : length rest ≢ 0 → get_or rest 0 0 ≡ 34 → t.kind ≡ Words → literal_end p (p + 1) 0 (drop 1 rest) ≡ Ok t.end → At p rest t
  at_mark : mark_of (get_or rest 0 0) ≡ Some t.kind → t.end ≡ p + 1 → At p rest t

token_to_ok : (k : TokenKind) (p : ℕ) (r : Result ℕ LexFault) (t : Token) → token_to k p r ≡ Ok t → (t.kind ≡ k) × (r ≡ Ok t.end)
token_to_ok k p (Err f) t h = let never : Err f ≡ Ok t = h in cc
token_to_ok k p (Ok e) t h = let same : record { kind = k; start = p; end = e } ≡ t = cc in (ap (λ (u : Token). u.kind) (sym same), ap (λ (u : Token). Ok u.end) same)

mark_at_ok : (p : ℕ) (m : Option TokenKind) (t : Token) → mark_at p m ≡ Ok t → (m ≡ Some t.kind) × (t.end ≡ p + 1)
mark_at_ok p None t h = let never : Err (BadByte p) ≡ Ok t = h in cc
mark_at_ok p (Some k) t h = let r = token_to_ok k p (Ok (p + 1)) t h in let last : Ok (p + 1) ≡ Ok t.end = r.1 in (ap Some (sym r.0), cc)

pub token_is : (p : ℕ) (rest : List ℕ) (t : Token) → token_at p rest ≡ Ok t → At p rest t
unfolding token_at
token_is p rest t h =
    ⊎_elim (λ a. let r = token_to_ok End p (Ok p) t a.1 in let last : Ok p ≡ Ok t.end = r.1 in at_end (eqb-true (length rest) 0 a.0) r.0 cc)
    (λ a. ⊎_elim (λ b. let r = token_to_ok Name p (Ok (p + prefix_len is_name_byte rest)) t b.1 in let last : Ok (p + prefix_len is_name_byte rest) ≡ Ok t.end = r.1 in at_name b.0 r.0 cc)
    (λ b. ⊎_elim (λ d. let r = token_to_ok Number p (number_end p rest) t d.1 in at_number r.1 r.0)
    (λ d. ⊎_elim (λ e. let r = token_to_ok Words p (literal_end p (p + 1) 0 (drop 1 rest)) t e.1 in at_words (λ z. false≢true (sym a.0 ∙ eq-eqb (length rest) 0 z)) (eqb-true (get_or rest 0 0) 34 e.0) r.0 r.1)
    (λ e. let r = mark_at_ok p (mark_of (get_or rest 0 0)) t e.1 in at_mark r.0 r.1)
    (chosen (get_or rest 0 0 == 34) _ _ _ d.1))
    (chosen (is_ascii_digit (get_or rest 0 0) || (get_or rest 0 0 == 45)) _ _ _ b.1))
    (chosen (is_name_start (get_or rest 0 0)) _ _ _ a.1))
    (chosen (length rest == 0) _ _ _ h)

ascii_front : (rest : List ℕ) (n : ℕ) → ((i : ℕ) → i < n → get_or rest i 0 < 128) → IsUtf8 (take n rest)
ascii_front rest n below = IsUtf8-from_ascii (take n rest) (λ i.
    ⊎_elim (λ lt. subst (λ (b : ℕ). b < 128) (sym (get_or-take n rest i 0 lt)) (below i lt))
    (λ ge. subst (λ (b : ℕ). b < 128) (sym (get_or_past (take n rest) i 0 (omega (arith, length-take n rest)))) (omega arith))
    (cases_lt i n))

name_ascii : (b : ℕ) → is_name_byte b ≡ true → b < 128
name_ascii b e = grind (arith, nat_tests)

digit_ascii : (b : ℕ) → is_ascii_digit b ≡ true → b < 128
digit_ascii b e = grind (arith, nat_tests)

mark_ascii : (b : ℕ) (k : TokenKind) → mark_of b ≡ Some k → b < 128
unfolding mark_of
mark_ascii b k e = grind (arith, nat_tests)

-- a kind that is neither a text's nor a number's
abbrev IsPlain : TokenKind → Type 0
IsPlain k = (is_words k ≡ false) × (is_number k ≡ false)

by_mark : (t : Bool) (m k : TokenKind) (r : Option TokenKind) → IsPlain m → (r ≡ Some k → IsPlain k) → cond t (Some m) r ≡ Some k → IsPlain k
by_mark true m k r here more e = subst IsPlain (same_Some m k e) here
by_mark false m k r here more e = more e

mark_plain : (b : ℕ) (k : TokenKind) → mark_of b ≡ Some k → IsPlain k
unfolding mark_of
mark_plain b k =
    by_mark (b == 46) Dot k _ (refl, refl) (by_mark (b == 40) Open k _ (refl, refl) (by_mark (b == 41) Close k _ (refl, refl)
    (by_mark (b == 123) ObjectOpen k _ (refl, refl) (by_mark (b == 125) ObjectClose k _ (refl, refl) (by_mark (b == 91) ListOpen k _ (refl, refl)
    (by_mark (b == 93) ListClose k _ (refl, refl) (by_mark (b == 58) Colon k _ (refl, refl) (by_mark (b == 44) Comma k _ (refl, refl) (λ never. absurd (none-some k never))))))))))

digits_end_ok : (p : ℕ) (rest : List ℕ) (sign digits e : ℕ) → digits_end p rest sign digits ≡ Ok e → e ≡ p + sign + digits
digits_end_ok p rest sign digits e h =
    ⊎_elim (λ a. let never : Err (BadByte p) ≡ Ok e = a.1 in cc)
    (λ a. ⊎_elim (λ b. let never : Err (BadByte (p + sign)) ≡ Ok e = b.1 in cc)
    (λ b. ⊎_elim (λ d. let never : Err (BadByte (p + sign + 18)) ≡ Ok e = d.1 in cc)
    (λ d. let is : Ok (p + sign + digits) ≡ Ok e = d.1 in cc)
    (chosen (nat_lt 18 digits) _ _ _ b.1))
    (chosen ((get_or rest sign 0 == 48) && nat_lt 1 digits) _ _ _ a.1))
    (chosen (digits == 0) _ _ _ h)

sign_is : (rest : List ℕ) (t : Bool) → (get_or rest 0 0 == 45) ≡ t → (sign_len rest ≡ 0) ⊎ ((sign_len rest ≡ 1) × (get_or rest 0 0 ≡ 45))
sign_is rest true q = inr (ap (λ b. cond b 1 0) q, eqb-true (get_or rest 0 0) 45 q)
sign_is rest false q = inl (ap (λ b. cond b 1 0) q)

number_ascii : (p e : ℕ) (rest : List ℕ) → number_end p rest ≡ Ok e → (i : ℕ) → i < e - p → get_or rest i 0 < 128
unfolding number_end
number_ascii p e rest h i lt =
    let s = sign_len rest in
    let digits = prefix_len is_ascii_digit (drop s rest) in
    let last = digits_end_ok p rest s digits e h in
    ⊎_elim
    (λ inside. ⊎_elim (λ none. absurd (omega (arith, none))) (λ one. let first : i ≡ 0 = omega (arith, one.0) in subst (λ (k : ℕ). get_or rest k 0 < 128) (sym first) (omega (arith, one.1))) (sign_is rest (get_or rest 0 0 == 45) refl))
    (λ behind.
    let k = i - s in
    let there : s + k ≡ i = omega arith in
    let digit : is_ascii_digit (get_or (drop s rest) k 0) ≡ true = prefix_len_passes is_ascii_digit (drop s rest) k 0 (omega (arith, last)) in
    digit_ascii (get_or rest i 0) (ap is_ascii_digit (sym (get_or-drop s rest k 0 ∙ ap (λ n. get_or rest n 0) there)) ∙ digit))
    (cases_lt i s)

digits_end_few : (p : ℕ) (rest : List ℕ) (sign digits e : ℕ) → digits_end p rest sign digits ≡ Ok e → (0 < digits) × (digits ≤ 18)
digits_end_few p rest sign digits e h =
    ⊎_elim (λ a. let never : Err (BadByte p) ≡ Ok e = a.1 in cc)
    (λ a. ⊎_elim (λ b. let never : Err (BadByte (p + sign)) ≡ Ok e = b.1 in cc)
    (λ b. ⊎_elim (λ d. let never : Err (BadByte (p + sign + 18)) ≡ Ok e = d.1 in cc)
    (λ d. let some : digits ≢ 0 = λ z. false≢true (sym a.0 ∙ eq-eqb digits 0 z) in (omega arith, ltb-false 18 digits d.0))
    (chosen (nat_lt 18 digits) _ _ _ b.1))
    (chosen ((get_or rest sign 0 == 48) && nat_lt 1 digits) _ _ _ a.1))
    (chosen (digits == 0) _ _ _ h)

sign_low : (rest : List ℕ) (t : Bool) → (get_or rest 0 0 == 45) ≡ t → sign_len rest ≤ 1
sign_low rest true q = let is : sign_len rest ≡ 1 = ap (λ b. cond b 1 0) q in omega arith
sign_low rest false q = let is : sign_len rest ≡ 0 = ap (λ b. cond b 1 0) q in omega arith

-- the bytes of a number that was read
number_is : (p e : ℕ) (rest : List ℕ) → number_end p rest ≡ Ok e → IsNumber (take (e - p) rest)
unfolding number_end
number_is p e rest h =
    let s = sign_len rest in
    let n = prefix_len is_ascii_digit (drop s rest) in
    let last = digits_end_ok p rest s n e h in
    let few = digits_end_few p rest s n e h in
    let low = sign_low rest (get_or rest 0 0 == 45) refl in
    let bytes = take (e - p) rest in
    let within : n ≤ length (drop s rest) = prefix_len-le-length is_ascii_digit (drop s rest) in
    let there : s < length rest = omega (arith, within, few.0, length-drop s rest) in
    let long : length bytes ≡ s + n = omega (arith, length-take (e - p) rest, last, within, length-drop s rest) in
    let first : get_or bytes 0 0 ≡ get_or rest 0 0 = get_or-take (e - p) rest 0 0 (omega (arith, last, few.0)) in
    let same : sign_len bytes ≡ s = ap (λ b. cond (b == 45) 1 0) first in
    record {
      some = omega (arith, same, long, few.0);
      few = omega (arith, same, long, few.1);
      digits = λ i from lt.
          let k = i - s in
          let there : s + k ≡ i = omega (arith, same, from) in
          let less : i < e - p = omega (arith, lt, long, last) in
          ap is_ascii_digit (get_or-take (e - p) rest i 0 less ∙ ap (λ m. get_or rest m 0) (sym there) ∙ sym (get_or-drop s rest k 0)) ∙ prefix_len_passes is_ascii_digit (drop s rest) k 0 (omega (arith, lt, long, same, from));
    }

plain_by_case : (p : ℕ) (rest : List ℕ) (t : Token) → At p rest t → t.start ≡ p → is_words t.kind ≡ false → (i : ℕ) → i < t.end - t.start → get_or rest i 0 < 128
plain_by_case p rest t (at_end none kind end) start other i lt = absurd (omega arith)
plain_by_case p rest t (at_name first kind end) start other i lt = name_ascii (get_or rest i 0) (prefix_len_passes is_name_byte rest i 0 (omega arith))
plain_by_case p rest t (at_number end kind) start other i lt = number_ascii p t.end rest end i (omega arith)
plain_by_case p rest t (at_words some quote kind end) start other i lt = absurd (false≢true (sym other ∙ ap is_words kind))
plain_by_case p rest t (at_mark mark end) start other i lt =
    let first : i ≡ 0 = omega arith in
    subst (λ (k : ℕ). get_or rest k 0 < 128) (sym first) (mark_ascii (get_or rest 0 0) t.kind mark)

-- what a token stands for that is other text in quotes is ASCII
pub plain_utf8 : (text : List ℕ) (t : Token) → HasToken text t → is_words t.kind ≡ false → IsUtf8 (text_of text t)
plain_utf8 text t has other =
    let rest = drop t.start text in
    let bytes = ascii_front rest (t.end - t.start) (plain_by_case t.start rest t (token_is t.start rest t has.read) refl other) in
    subst IsUtf8 (ap (λ w. cond w (literal_text 0 (drop 1 rest)) (take (t.end - t.start) rest)) (sym other)) bytes

-- what a text in quotes stands on
pub record Quoted (text : List ℕ) (t : Token) : Type 0 where
  pub boundary : IsCharBoundary text (t.start + 1)
  pub closed : IsClosed (drop (t.start + 1) text)
  pub value : text_of text t ≡ literal_text 0 (drop (t.start + 1) text)

quoted_by_case : (text : List ℕ) (t : Token) → IsUtf8 text → t.start ≤ length text → is_words t.kind ≡ true → At t.start (drop t.start text) t → Quoted text t
quoted_by_case text t utf8 inside words (at_end none kind end) = absurd (false≢true (sym (ap is_words kind) ∙ words))
quoted_by_case text t utf8 inside words (at_name first kind end) = absurd (false≢true (sym (ap is_words kind) ∙ words))
quoted_by_case text t utf8 inside words (at_number end kind) = absurd (false≢true (sym (ap is_words kind) ∙ words))
quoted_by_case text t utf8 inside words (at_words some quote kind end) =
    let s = t.start in
    let there : s < length text = omega (arith, some, length-drop s text) in
    let first : get_or text s 0 ≡ 34 = ap (λ k. get_or text k 0) (sym (add-zero s)) ∙ sym (get_or-drop s text 0 0) ∙ quote in
    let tail : drop 1 (drop s text) ≡ drop (s + 1) text = drop-drop 1 s text in
    record {
      boundary = IsCharBoundary-after_ascii text s utf8 there (omega arith);
      closed = (s, s + 1, t.end, ap (literal_end s (s + 1) 0) (sym tail) ∙ end);
      value = ap (λ w. cond w (literal_text 0 (drop 1 (drop s text))) (take (t.end - s) (drop s text))) words ∙ ap (literal_text 0) tail;
    }
quoted_by_case text t utf8 inside words (at_mark mark end) = absurd (false≢true (sym ((mark_plain (get_or (drop t.start text) 0 0) t.kind mark).0) ∙ words))

pub quoted : (text : List ℕ) (t : Token) → IsUtf8 text → HasToken text t → is_words t.kind ≡ true → Quoted text t
quoted text t utf8 has words = quoted_by_case text t utf8 (omega (arith, has.forward, has.within)) words (token_is t.start (drop t.start text) t has.read)

number_by_case : (text : List ℕ) (t : Token) → is_number t.kind ≡ true → At t.start (drop t.start text) t → IsNumber (text_of text t)
number_by_case text t number (at_end none kind end) = absurd (false≢true (sym (ap is_number kind) ∙ number))
number_by_case text t number (at_name first kind end) = absurd (false≢true (sym (ap is_number kind) ∙ number))
number_by_case text t number (at_number end kind) =
    let other : is_words t.kind ≡ false = ap is_words kind in
    subst IsNumber (ap (λ w. cond w (literal_text 0 (drop 1 (drop t.start text))) (take (t.end - t.start) (drop t.start text))) (sym other)) (number_is t.start t.end (drop t.start text) end)
number_by_case text t number (at_words some quote kind end) = absurd (false≢true (sym (ap is_number kind) ∙ number))
number_by_case text t number (at_mark mark end) = absurd (false≢true (sym ((mark_plain (get_or (drop t.start text) 0 0) t.kind mark).1) ∙ number))

-- what a number token stands for
pub number_token : (text : List ℕ) (t : Token) → HasToken text t → is_number t.kind ≡ true → IsNumber (text_of text t)
number_token text t has number = number_by_case text t number (token_is t.start (drop t.start text) t has.read)
