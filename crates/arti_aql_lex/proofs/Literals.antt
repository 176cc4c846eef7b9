-- Steps of a text in quotes, at a place of it.
use Rattle.std.proofs.Common.{◌≡◌, ◌≢◌, ℕ, zero, suc, ◌+◌, ◌-◌, ◌<◌, ◌≤◌, List, [], ◌∷◌, length, get_or, drop, Ok, Err, refl, sym, ap, ◌∙◌, arith}
use Rattle.std.proofs.lemmas.List.{drop_more, drop_all, drop-drop}
use Rattle.std.proofs.lemmas.Bool.{ne_eqb}
use Rattle.arti_aql_lex.specs.Literal.{piece_len, literal_end}
use Rattle.arti_aql_lex.specs.declared.token.LexFault.{LexFault}
use Rattle.arti_aql_lex.specs.declared.token.LexFault.TheVariants.{OpenText}

-- bytes that belong to a piece already seen are passed over
pub literal_end_more : (o p n : ℕ) (xs : List ℕ) → literal_end o p n xs ≡ literal_end o (p + n) 0 (drop n xs)
unfolding literal_end
literal_end_more o p zero xs = let e : p ≡ p + 0 = omega arith in ap (λ q. literal_end o q 0 xs) e
literal_end_more o p (suc n) [] = refl
literal_end_more o p (suc n) (b ∷ bs) = let e : p + 1 + n ≡ p + suc n = omega arith in literal_end_more o (p + 1) n bs ∙ ap (λ q. literal_end o q 0 (drop n bs)) e

pub end_at_quote : (o p i : ℕ) (d : List ℕ) → i < length d → get_or d i 0 ≡ 34 → literal_end o p 0 (drop i d) ≡ Ok (p + 1)
unfolding literal_end
end_at_quote o p i d h q = ap (literal_end o p 0) (drop_more d i 0 h ∙ ap (λ b. b ∷ drop (i + 1) d) q)

pub end_at_fault : (o p i : ℕ) (d : List ℕ) (f : LexFault) → i < length d → get_or d i 0 ≢ 34 → piece_len o p (drop i d) ≡ Err f → literal_end o p 0 (drop i d) ≡ Err f
unfolding literal_end
end_at_fault o p i d f h q e =
    let cell = drop_more d i 0 h in
    let piece : piece_len o p (get_or d i 0 ∷ drop (i + 1) d) ≡ Err f = ap (piece_len o p) (sym cell) ∙ e in
    ap (literal_end o p 0) cell ∙ rw (ne_eqb (get_or d i 0) 34 q, piece) refl

pub end_at_piece : (o p i n : ℕ) (d : List ℕ) → i < length d → get_or d i 0 ≢ 34 → 0 < n → piece_len o p (drop i d) ≡ Ok n → literal_end o p 0 (drop i d) ≡ literal_end o (p + n) 0 (drop (i + n) d)
unfolding literal_end
end_at_piece o p i n d h q some e =
    let cell = drop_more d i 0 h in
    let piece : piece_len o p (get_or d i 0 ∷ drop (i + 1) d) ≡ Ok n = ap (piece_len o p) (sym cell) ∙ e in
    let place : p + 1 + (n - 1) ≡ p + n = omega arith in
    let rest : i + 1 + (n - 1) ≡ i + n = omega arith in
    let step : literal_end o p 0 (get_or d i 0 ∷ drop (i + 1) d) ≡ literal_end o (p + 1) (n - 1) (drop (i + 1) d) = rw (ne_eqb (get_or d i 0) 34 q, piece) refl in
    ap (literal_end o p 0) cell ∙ step ∙ literal_end_more o (p + 1) (n - 1) (drop (i + 1) d)
    ∙ ap (λ k. literal_end o k 0 (drop (n - 1) (drop (i + 1) d))) place
    ∙ ap (literal_end o (p + n) 0) (drop-drop (n - 1) (i + 1) d ∙ ap (λ k. drop k d) rest)

pub end_at_end : (o p i : ℕ) (d : List ℕ) → length d ≤ i → literal_end o p 0 (drop i d) ≡ Err (OpenText o)
unfolding literal_end
end_at_end o p i d h = ap (literal_end o p 0) (drop_all i d h)
