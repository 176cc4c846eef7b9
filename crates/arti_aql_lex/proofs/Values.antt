-- Steps of what a text stands for.
use Rattle.std.proofs.Common.{◌≡◌, ◌≢◌, ℕ, zero, suc, ◌+◌, ◌-◌, ◌<◌, ◌≤◌, Bool, true, false, not, ◌||◌, ◌==◌, nat_lt, List, [], ◌∷◌, ◌++◌, length, get_or, take, drop, Ok, Err, refl, sym, ap, ◌∙◌, subst, arith, add-zero, one-add, append_assoc, IsUtf8}
use Rattle.std.proofs.lemmas.Str.{IsUtf8-append, IsUtf8-between, IsCharBoundary-before_ascii, IsCharBoundary-after_ascii}
use Rattle.std.specs.List.{prefix_len}
use Rattle.std.specs.Char.{encode_utf8}
use Rattle.std.specs.Str.{IsCharBoundary}
use Rattle.std.proofs.lemmas.List.{drop-drop, length-drop, get_or-drop, append-nil}
use Rattle.std.proofs.lemmas.List.Sums.{prefix_len_stops}
use Rattle.std.proofs.lemmas.Bool.{false≢true, not-true, or_parts, eqb-true, eq-eqb, ne_eqb}
use Rattle.arti_aql_lex.specs.Escape.{◌>>=◌, escape_at}
use Rattle.arti_aql_lex.specs.Literal.{piece_len, literal_end, piece_text, piece_width, literal_text, character_of, width_of, escape_len, is_plain, IsClosed, spoiled_at}
use Rattle.arti_aql_lex.specs.declared.escape.Spoiled.{Spoiled}
use Rattle.arti_aql_lex.specs.declared.token.LexFault.TheVariants.{BadByte}
use Rattle.arti_aql_lex.proofs.Literals.{literal_end_more}

-- bytes of a piece already seen are passed over
literal_text_more : (n : ℕ) (xs : List ℕ) → literal_text n xs ≡ literal_text 0 (drop n xs)
unfolding literal_text
literal_text_more zero xs = refl
literal_text_more (suc n) [] = refl
literal_text_more (suc n) (b ∷ bs) = literal_text_more n bs

either : (a b : Bool) → not (a || b) ≡ false → a ≡ false → b ≡ true
either true b h e = absurd (false≢true (sym e))
either false true h e = refl
either false false h e = absurd (false≢true (sym h))

nothing_closed : IsClosed [] → ⊥
unfolding literal_end
nothing_closed (o, p, e, h) = cc

closed_by_control : (o p e b : ℕ) (bs : List ℕ) (t : Bool) → nat_lt b 32 ≡ t → (b == 34) ≡ false → (b == 92) ≡ false → literal_end o p 0 (b ∷ bs) ≡ Ok e → literal_end o (p + 1) 0 bs ≡ Ok e
unfolding literal_end piece_len
closed_by_control o p e b bs true low q s h =
    let no : literal_end o p 0 (b ∷ bs) ≡ Err (BadByte p) = rw (q, low) refl in
    let never : Err (BadByte p) ≡ Ok e = sym no ∙ h in cc
closed_by_control o p e b bs false low q s h =
    let step : literal_end o p 0 (b ∷ bs) ≡ literal_end o (p + 1) 0 bs = rw (q, low, s) refl in
    sym step ∙ h

-- what a row of plain bytes at the front is to a text
pub record Runs (xs : List ℕ) (n : ℕ) : Type 0 where
  pub inside : n < length xs
  pub closed : IsClosed (drop n xs)
  pub text : literal_text 0 xs ≡ take n xs ++ literal_text 0 (drop n xs)

runs_by_first : (b : ℕ) (bs : List ℕ) (t : Bool) → is_plain b ≡ t → IsClosed (b ∷ bs) → (IsClosed bs → Runs bs (prefix_len is_plain bs)) → Runs (b ∷ bs) (prefix_len is_plain (b ∷ bs))
unfolding literal_text piece_text piece_width
runs_by_first b bs true plain closed more =
    let parts = or_parts (b == 34) (b == 92) (not-true ((b == 34) || (b == 92)) plain) in
    let k = prefix_len is_plain bs in
    let r = more (closed.0, closed.1 + 1, closed.2, closed_by_control closed.0 closed.1 closed.2 b bs (nat_lt b 32) refl parts.0 parts.1 closed.3) in
    let passes : prefix_len is_plain (b ∷ bs) ≡ suc k = rw (plain, one-add) refl in
    let step : literal_text 0 (b ∷ bs) ≡ b ∷ literal_text 0 bs = rw (parts.0, parts.1) refl in
    subst (λ n. Runs (b ∷ bs) n) (sym passes) (record {
      inside = omega (arith, r.inside);
      closed = r.closed;
      text = step ∙ ap (λ l. b ∷ l) r.text;
    })
runs_by_first b bs false plain closed more =
    let passes : prefix_len is_plain (b ∷ bs) ≡ 0 = rw plain refl in
    subst (λ n. Runs (b ∷ bs) n) (sym passes) (record { inside = omega arith; closed = closed; text = refl })

pub runs : (xs : List ℕ) → IsClosed xs → Runs xs (prefix_len is_plain xs)
runs [] closed = absurd (nothing_closed closed)
runs (b ∷ bs) closed = runs_by_first b bs (is_plain b) refl closed (runs bs)

-- what an escape at the front is to a text
pub record Escapes (xs : List ℕ) (e : ℕ × ℕ) : Type 0 where
  pub read : escape_at xs ≡ Ok e
  pub closed : IsClosed (drop e.1 xs)
  pub text : literal_text 0 xs ≡ encode_utf8 e.0 ++ literal_text 0 (drop e.1 xs)

escape_lt : (b : ℕ) → b ≡ 92 → (nat_lt b 32 ≡ false) × ((b == 34) ≡ false) × ((b == 92) ≡ true)
escape_lt b e = (subst (λ (v : ℕ). nat_lt v 32 ≡ false) (sym e) refl, subst (λ (v : ℕ). (v == 34) ≡ false) (sym e) refl, subst (λ (v : ℕ). (v == 92) ≡ true) (sym e) refl)

piece_is_escape : (o p b : ℕ) (bs : List ℕ) → b ≡ 92 → piece_len o p (b ∷ bs) ≡ escape_len o p (escape_at (b ∷ bs))
unfolding piece_len
piece_is_escape o p b bs is = let t = escape_lt b is in rw (t.0, t.2) refl

end_by_piece : (o p b : ℕ) (bs : List ℕ) → b ≡ 92 → literal_end o p 0 (b ∷ bs) ≡ (escape_len o p (escape_at (b ∷ bs)) >>= λ n. literal_end o (p + 1) (n - 1) bs)
unfolding literal_end
end_by_piece o p b bs is = let t = escape_lt b is in rw (t.1, piece_is_escape o p b bs is) refl

text_by_piece : (b : ℕ) (bs : List ℕ) → b ≡ 92 → literal_text 0 (b ∷ bs) ≡ character_of (escape_at (b ∷ bs)) ++ literal_text (width_of (escape_at (b ∷ bs)) - 1) bs
unfolding literal_text piece_text piece_width
text_by_piece b bs is = let t = escape_lt b is in rw (t.1, t.2) refl

-- in a text that is closed a backslash begins an escape
pub no_spoiled : (xs : List ℕ) (s : Spoiled) → IsClosed xs → get_or xs 0 0 ≡ 92 → escape_at xs ≡ Err s → ⊥
no_spoiled [] s closed is read = nothing_closed closed
no_spoiled (b ∷ bs) s (o, p, e, h) is read =
    let never : Err (spoiled_at o p s) ≡ Ok e = sym (end_by_piece o p b bs is ∙ ap (λ r. escape_len o p r >>= λ n. literal_end o (p + 1) (n - 1) bs) read) ∙ h in cc

pub escapes : (xs : List ℕ) (e : ℕ × ℕ) → IsClosed xs → get_or xs 0 0 ≡ 92 → escape_at xs ≡ Ok e → 2 ≤ e.1 → Escapes xs e
escapes [] e closed is read wide = absurd (nothing_closed closed)
escapes (b ∷ bs) e (o, p, last, h) is read wide =
    let behind : suc (e.1 - 1) ≡ e.1 = omega arith in
    let same : drop (e.1 - 1) bs ≡ drop e.1 (b ∷ bs) = ap (λ k. drop k (b ∷ bs)) behind in
    let go : literal_end o (p + 1) (e.1 - 1) bs ≡ Ok last = sym (end_by_piece o p b bs is ∙ ap (λ r. escape_len o p r >>= λ n. literal_end o (p + 1) (n - 1) bs) read) ∙ h in
    let here : literal_end o (p + 1 + (e.1 - 1)) 0 (drop e.1 (b ∷ bs)) ≡ Ok last = ap (literal_end o (p + 1 + (e.1 - 1)) 0) (sym same) ∙ sym (literal_end_more o (p + 1) (e.1 - 1) bs) ∙ go in
    let text : literal_text 0 (b ∷ bs) ≡ encode_utf8 e.0 ++ literal_text (e.1 - 1) bs = text_by_piece b bs is ∙ ap (λ r. character_of r ++ literal_text (width_of r - 1) bs) read in
    record {
      read = read;
      closed = (o, p + 1 + (e.1 - 1), last, here);
      text = text ∙ ap (λ l. encode_utf8 e.0 ++ l) (literal_text_more (e.1 - 1) bs ∙ ap (literal_text 0) same);
    }

-- a text ends at its quote
pub quote_ends : (xs : List ℕ) → get_or xs 0 0 ≡ 34 → literal_text 0 xs ≡ []
unfolding literal_text
quote_ends [] is = refl
quote_ends (b ∷ bs) is = rw (eq-eqb b 34 is) refl

-- the byte behind a run of plain bytes is a quote or a backslash
pub stop_is_backslash : (xs : List ℕ) → prefix_len is_plain xs < length xs → get_or xs (prefix_len is_plain xs) 0 ≢ 34 → get_or xs (prefix_len is_plain xs) 0 ≡ 92
stop_is_backslash xs inside no_quote =
    let b = get_or xs (prefix_len is_plain xs) 0 in
    eqb-true b 92 (either (b == 34) (b == 92) (prefix_len_stops is_plain xs 0 inside) (ne_eqb b 34 no_quote))

-- how far a text was copied: what was added is text, and what is left of the text completes it
pub record Copied (d : List ℕ) (start at : ℕ) (old new : List ℕ) : Type 0 where
  pub within : at ≤ length d
  pub boundary : IsCharBoundary d at
  pub closed : IsClosed (drop at d)
  pub added : List ℕ
  pub appended : new ≡ old ++ added
  pub utf8 : IsUtf8 added
  pub rest : literal_text 0 (drop start d) ≡ added ++ literal_text 0 (drop at d)

-- the same at a byte that is a quote or a backslash
pub record Stopped (d : List ℕ) (start stop : ℕ) (old new : List ℕ) : Type 0 where
  pub copied : Copied d start stop old new
  pub inside : stop < length d
  pub escape : get_or d stop 0 ≢ 34 → get_or d stop 0 ≡ 92

below_by_test : (b : ℕ) (t : Bool) → (b == 34) ≡ t → (b ≢ 34 → b ≡ 92) → b < 128
below_by_test b true e h = let is : b ≡ 34 = eqb-true b 34 e in omega arith
below_by_test b false e h = let is : b ≡ 92 = h (λ q. false≢true (sym e ∙ eq-eqb b 34 q)) in omega arith

-- a run of plain bytes is copied
pub copied_run : (d : List ℕ) (start at stop : ℕ) (old out new : List ℕ) → IsUtf8 d → Copied d start at old out → stop ≡ at + prefix_len is_plain (drop at d) → new ≡ out ++ take (stop - at) (drop at d) → Stopped d start stop old new
copied_run d start at stop old out new utf8 c is wrote =
    let xs = drop at d in
    let n = prefix_len is_plain xs in
    let run = runs xs c.closed in
    let inside : stop < length d = omega (arith, run.inside, length-drop at d) in
    let byte : get_or xs n 0 ≡ get_or d stop 0 = get_or-drop at d n 0 ∙ ap (λ k. get_or d k 0) (sym is) in
    let escape : get_or d stop 0 ≢ 34 → get_or d stop 0 ≡ 92 = λ no. sym byte ∙ stop_is_backslash xs run.inside (λ q. no (sym byte ∙ q)) in
    let ascii : get_or d stop 0 < 128 = below_by_test (get_or d stop 0) (get_or d stop 0 == 34) refl escape in
    let boundary = IsCharBoundary-before_ascii d stop inside ascii in
    let long : stop - at ≡ n = omega arith in
    let piece = take (stop - at) xs in
    let rest : drop n xs ≡ drop stop d = drop-drop n at d ∙ ap (λ k. drop k d) (sym is) in
    let text : literal_text 0 xs ≡ piece ++ literal_text 0 (drop stop d) = run.text ∙ ap (λ k. take k xs ++ literal_text 0 (drop n xs)) (sym long) ∙ ap (λ l. piece ++ literal_text 0 l) rest in
    record {
      copied = record {
        within = omega arith;
        boundary = boundary;
        closed = subst IsClosed rest run.closed;
        added = c.added ++ piece;
        appended = wrote ∙ ap (λ l. l ++ piece) c.appended ∙ append_assoc old c.added piece;
        utf8 = IsUtf8-append c.added piece c.utf8 (IsUtf8-between d at stop utf8 (omega arith) c.boundary boundary);
        rest = c.rest ∙ ap (λ l. c.added ++ l) text ∙ sym (append_assoc c.added piece (literal_text 0 (drop stop d)));
      };
      inside = inside;
      escape = escape;
    }

-- an escape is copied as its character
pub copied_escape : (d : List ℕ) (start stop : ℕ) (e : ℕ × ℕ) (old out new : List ℕ) → IsUtf8 d → Stopped d start stop old out → get_or d stop 0 ≢ 34 → escape_at (drop stop d) ≡ Ok e → (2 ≤ e.1) × (e.1 ≤ length (drop stop d)) → get_or (drop stop d) (e.1 - 1) 0 < 128
    → IsUtf8 (encode_utf8 e.0) → new ≡ out ++ encode_utf8 e.0 → Copied d start (stop + e.1) old new
copied_escape d start stop e old out new utf8 s no_quote read wide ascii char wrote =
    let c = s.copied in
    let xs = drop stop d in
    let first : get_or xs 0 0 ≡ 92 = get_or-drop stop d 0 0 ∙ ap (λ k. get_or d k 0) (add-zero stop) ∙ s.escape no_quote in
    let x = escapes xs e c.closed first read wide.0 in
    let last : stop + (e.1 - 1) + 1 ≡ stop + e.1 = omega (arith, wide.0) in
    let low : get_or d (stop + (e.1 - 1)) 0 < 128 = subst (λ (b : ℕ). b < 128) (get_or-drop stop d (e.1 - 1) 0) ascii in
    let reach : stop + (e.1 - 1) < length d = omega (arith, wide.0, wide.1, length-drop stop d, s.inside) in
    let rest : drop e.1 xs ≡ drop (stop + e.1) d = drop-drop e.1 stop d in
    record {
      within = omega arith;
      boundary = subst (IsCharBoundary d) last (IsCharBoundary-after_ascii d (stop + (e.1 - 1)) utf8 reach low);
      closed = subst IsClosed rest x.closed;
      added = c.added ++ encode_utf8 e.0;
      appended = wrote ∙ ap (λ l. l ++ encode_utf8 e.0) c.appended ∙ append_assoc old c.added (encode_utf8 e.0);
      utf8 = IsUtf8-append c.added (encode_utf8 e.0) c.utf8 char;
      rest = c.rest ∙ ap (λ l. c.added ++ l) (x.text ∙ ap (λ l. encode_utf8 e.0 ++ literal_text 0 l) rest) ∙ sym (append_assoc c.added (encode_utf8 e.0) (literal_text 0 (drop (stop + e.1) d)));
    }

-- at the quote the whole text was copied
pub copied_all : (d : List ℕ) (start stop : ℕ) (old new : List ℕ) → Stopped d start stop old new → get_or d stop 0 ≡ 34 → (new ≡ old ++ literal_text 0 (drop start d)) × IsUtf8 (literal_text 0 (drop start d))
copied_all d start stop old new s quote =
    let c = s.copied in
    let none = quote_ends (drop stop d) (get_or-drop stop d 0 0 ∙ ap (λ k. get_or d k 0) (add-zero stop) ∙ quote) in
    let all : literal_text 0 (drop start d) ≡ c.added = c.rest ∙ ap (λ l. c.added ++ l) none ∙ append-nil c.added in
    (c.appended ∙ ap (λ l. old ++ l) (sym all), subst IsUtf8 (sym all) c.utf8)
