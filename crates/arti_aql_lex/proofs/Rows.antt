-- Steps of a row of tokens.
use Rattle.std.proofs.Common.{◌≡◌, ℕ, zero, suc, ◌+◌, ◌-◌, ◌<◌, ◌≤◌, Bool, true, false, cond, List, [], ◌∷◌, length, get_or, drop, Result, Ok, Err, IfOk, IfErr, refl, sym, ap, ◌∙◌, arith, add-zero, one-add}
use Rattle.std.specs.List.{prefix_len}
use Rattle.std.proofs.lemmas.List.{drop-drop, length-drop, get_or-drop}
use Rattle.std.proofs.lemmas.List.Sums.{prefix_len_stops}
use Rattle.arti_aql_lex.specs.Tokens.{is_blank, token_at, value_at, text_of, is_end}
use Rattle.arti_aql_lex.specs.Lexed.{finish, fault, token, begins, lexed, before}
use Rattle.arti_aql_lex.specs.declared.token.LexFault.{LexFault}
use Rattle.arti_aql_lex.specs.declared.token.Token.{Token}

-- bytes of a token already seen are passed over
pub lexed_more : (p n : ℕ) (xs : List ℕ) → n ≤ length xs → lexed p n xs ≡ lexed (p + n) 0 (drop n xs)
unfolding lexed
lexed_more p zero xs h = let e : p ≡ p + 0 = omega arith in ap (λ q. lexed q 0 xs) e
lexed_more p (suc n) [] h = absurd (omega arith)
lexed_more p (suc n) (b ∷ bs) h =
    let e : p + 1 + n ≡ p + suc n = omega arith in
    lexed_more (p + 1) n bs (omega arith) ∙ ap (λ q. lexed q 0 (drop n bs)) e

blanks_by_first : (p b : ℕ) (bs : List ℕ) (t : Bool) → is_blank b ≡ t → lexed (p + 1) 0 bs ≡ lexed (p + 1 + prefix_len is_blank bs) 0 (drop (prefix_len is_blank bs) bs)
    → lexed p 0 (b ∷ bs) ≡ lexed (p + prefix_len is_blank (b ∷ bs)) 0 (drop (prefix_len is_blank (b ∷ bs)) (b ∷ bs))
unfolding lexed
blanks_by_first p b bs true e more =
    let place : p + 1 + prefix_len is_blank bs ≡ p + (1 + prefix_len is_blank bs) = omega arith in
    let passes : prefix_len is_blank (b ∷ bs) ≡ 1 + prefix_len is_blank bs = rw e refl in
    let step : lexed p 0 (b ∷ bs) ≡ lexed (p + 1) 0 bs = rw e refl in
    let rest : drop (1 + prefix_len is_blank bs) (b ∷ bs) ≡ drop (prefix_len is_blank bs) bs = ap (λ n. drop n (b ∷ bs)) (one-add (prefix_len is_blank bs)) in
    step ∙ more ∙ ap (λ q. lexed q 0 (drop (prefix_len is_blank bs) bs)) place ∙ ap (lexed (p + (1 + prefix_len is_blank bs)) 0) (sym rest) ∙ ap (λ n. lexed (p + n) 0 (drop n (b ∷ bs))) (sym passes)
blanks_by_first p b bs false e more =
    let place : p ≡ p + 0 = omega arith in
    let passes : prefix_len is_blank (b ∷ bs) ≡ 0 = rw e refl in
    ap (λ q. lexed q 0 (b ∷ bs)) place ∙ ap (λ n. lexed (p + n) 0 (drop n (b ∷ bs))) (sym passes)

-- blanks are passed over
pub lexed_blanks : (p : ℕ) (xs : List ℕ) → lexed p 0 xs ≡ lexed (p + prefix_len is_blank xs) 0 (drop (prefix_len is_blank xs) xs)
unfolding lexed
lexed_blanks p [] = let e : p ≡ p + 0 = omega arith in ap finish e
lexed_blanks p (b ∷ bs) = blanks_by_first p b bs (is_blank b) refl (lexed_blanks (p + 1) bs)

lexed_begins : (p b : ℕ) (bs : List ℕ) → is_blank b ≡ false → lexed p 0 (b ∷ bs) ≡ begins (token_at p (b ∷ bs)) (b ∷ bs) (λ n. lexed (p + 1) n bs)
unfolding lexed
lexed_begins p b bs e = rw e refl

-- at a byte that is no blank the token of that place comes
lexed_token : (p q : ℕ) (t : Token) (xs : List ℕ) → 0 < length xs → is_blank (get_or xs 0 0) ≡ false → token_at p xs ≡ Ok t → t.start ≡ p → p < t.end → t.end ≤ p + length xs → q ≡ t.end - p
    → lexed p 0 xs ≡ token t.start t.end t.kind (value_at t xs) (lexed t.end 0 (drop q xs))
lexed_token p q t [] some first found starts long within far = absurd (omega arith)
lexed_token p q t (b ∷ bs) some first found starts long within far =
    let n : t.end - t.start - 1 ≤ length bs = omega arith in
    let place : p + 1 + (t.end - t.start - 1) ≡ t.end = omega arith in
    let behind : suc (t.end - t.start - 1) ≡ q = omega arith in
    lexed_begins p b bs first
    ∙ ap (λ r. begins r (b ∷ bs) (λ n. lexed (p + 1) n bs)) found
    ∙ ap (token t.start t.end t.kind (value_at t (b ∷ bs)))
    (lexed_more (p + 1) (t.end - t.start - 1) bs n ∙ ap (λ k. lexed k 0 (drop (t.end - t.start - 1) bs)) place ∙ ap (λ k. lexed t.end 0 (drop k (b ∷ bs))) behind)

lexed_fault : (p : ℕ) (f : LexFault) (xs : List ℕ) → 0 < length xs → is_blank (get_or xs 0 0) ≡ false → token_at p xs ≡ Err f → lexed p 0 xs ≡ fault f
lexed_fault p f [] some first found = absurd (omega arith)
lexed_fault p f (b ∷ bs) some first found = lexed_begins p b bs first ∙ ap (λ r. begins r (b ∷ bs) (λ n. lexed (p + 1) n bs)) found

lexed_end : (p : ℕ) (xs : List ℕ) → length xs ≡ 0 → lexed p 0 xs ≡ finish p
unfolding lexed
lexed_end p [] h = refl
lexed_end p (b ∷ bs) h = absurd (omega arith)

-- what a reader knows of the token that it found behind the blanks
pub record Found (d : List ℕ) (start : ℕ) (t : Token) : Type 0 where
  pub found : token_at start (drop start d) ≡ Ok t
  pub starts : t.start ≡ start
  pub within : t.end ≤ length d
  pub ends : length (drop start d) ≡ 0 → (is_end t.kind ≡ true)
  pub goes : 0 < length (drop start d) → (is_end t.kind ≡ false) × (start < t.end)

module _ (d : List ℕ) (at start : ℕ) (reach : at ≤ length d) (blanks : start ≡ at + prefix_len is_blank (drop at d)) where
  -- the row from the first byte that is no blank
  from_start : lexed at 0 (drop at d) ≡ lexed start 0 (drop start d)
  from_start =
      lexed_blanks at (drop at d) ∙ ap (λ q. lexed q 0 (drop (prefix_len is_blank (drop at d)) (drop at d))) (sym blanks)
      ∙ ap (lexed start 0) (drop-drop (prefix_len is_blank (drop at d)) at d ∙ ap (λ k. drop k d) (sym blanks))

  first_no_blank : 0 < length (drop start d) → is_blank (get_or (drop start d) 0 0) ≡ false
  first_no_blank some =
      let n = prefix_len is_blank (drop at d) in
      let inside : n < length (drop at d) = omega (arith, length-drop at d, length-drop start d) in
      ap is_blank (get_or-drop start d 0 0 ∙ ap (λ k. get_or d k 0) (add-zero start ∙ blanks) ∙ sym (get_or-drop at d n 0)) ∙ prefix_len_stops is_blank (drop at d) 0 inside

  by_length : (t : Token) → Found d start t → (n : ℕ) → length (drop start d) ≡ n → lexed at 0 (drop at d) ≡ before d t (lexed t.end 0 (drop t.end d))
  by_length t f zero none =
      let kind = f.ends none in
      let last : lexed start 0 (drop start d) ≡ finish t.start = lexed_end start (drop start d) none ∙ ap finish (sym f.starts) in
      from_start ∙ last ∙ ap (λ b. cond b (finish t.start) (token t.start t.end t.kind (text_of d t) (lexed t.end 0 (drop t.end d)))) (sym kind)
  by_length t f (suc n) some =
      let goes = f.goes (omega arith) in
      let kind = goes.0 in
      let fits : t.end ≤ start + length (drop start d) = omega (arith, length-drop start d, f.within) in
      let far : start + (t.end - start) ≡ t.end = omega (arith, goes.1) in
      let row = lexed_token start (t.end - start) t (drop start d) (omega arith) (first_no_blank (omega arith)) f.found f.starts goes.1 fits refl in
      let tail : drop (t.end - start) (drop start d) ≡ drop t.end d = drop-drop (t.end - start) start d ∙ ap (λ k. drop k d) far in
      let value : value_at t (drop start d) ≡ text_of d t = ap (λ k. value_at t (drop k d)) (sym f.starts) in
      from_start ∙ row ∙ ap (λ v. token t.start t.end t.kind v (lexed t.end 0 (drop (t.end - start) (drop start d)))) value
      ∙ ap (λ r. token t.start t.end t.kind (text_of d t) (lexed t.end 0 r)) tail
      ∙ ap (λ b. cond b (finish t.start) (token t.start t.end t.kind (text_of d t) (lexed t.end 0 (drop t.end d)))) (sym kind)

  pub next_before : (t : Token) → Found d start t → lexed at 0 (drop at d) ≡ before d t (lexed t.end 0 (drop t.end d))
  next_before t f = by_length t f (length (drop start d)) refl

  pub next_fault : (f : LexFault) → 0 < length (drop start d) → token_at start (drop start d) ≡ Err f → lexed at 0 (drop at d) ≡ fault f
  next_fault f some found = from_start ∙ lexed_fault start f (drop start d) some (first_no_blank some) found

  pub next_ok : (r : Result Token LexFault) (xs : List ℕ) → start ≤ length d → xs ≡ drop start d → r ≡ token_at start xs → IfOk r (λ t. (t.start ≡ start) × (t.start ≤ t.end) × (t.end ≤ start + length xs)) → (length xs ≡ 0 → IfOk r (λ t. is_end t.kind ≡ true))
      → (0 < length xs → IfOk r (λ t. (is_end t.kind ≡ false) × (start < t.end))) → IfOk r (λ t. lexed at 0 (drop at d) ≡ before d t (lexed t.end 0 (drop t.end d)))
  next_ok (Err f) xs inside is read within ends goes = tt
  next_ok (Ok t) xs inside is read within ends goes =
      let same = ap length is in
      next_before t (record {
        found = sym (read ∙ ap (token_at start) is);
        starts = within.0;
        within = omega (arith, within.2, same, length-drop start d, inside);
        ends = λ none. ends (same ∙ none);
        goes = λ some. goes (omega (arith, same, some));
      })

  pub next_err : (r : Result Token LexFault) (xs : List ℕ) → xs ≡ drop start d → r ≡ token_at start xs → IfErr r (λ f. 0 < length xs) → IfErr r (λ f. lexed at 0 (drop at d) ≡ fault f)
  next_err (Ok t) xs is read some = tt
  next_err (Err f) xs is read some = next_fault f (omega (arith, ap length is, some)) (sym (read ∙ ap (token_at start) is))
