-- The tokens of printed parts, each before other bytes.
use Rattle.std.proofs.Common.{◌≡◌, ℕ, suc, ◌+◌, ◌-◌, Bool, true, false, List, [], ◌∷◌, ◌++◌, length, take, Some, Ok, refl, ap, ◌∙◌, arith, append_assoc, one-add}
use Rattle.std.specs.Prelude.{◌||◌, ◌&&◌, ◌==◌}
use Rattle.std.specs.List.{prefix_len, list_all}
use Rattle.std.specs.Char.{is_ascii_digit}
use Rattle.std.proofs.Math.Seq.{take-append_seam}
use Rattle.std.proofs.lemmas.Bool.{false≢true}
use Rattle.std.proofs.lemmas.Bool.Decides.{nat_tests}
use Rattle.std.proofs.lemmas.List.{length-append}
use Rattle.json.specs.Print.{escape_byte, escape, quoted}
use Rattle.arti_aql_lex.specs.Literal.{piece_text, piece_width, literal_end, literal_text}
use Rattle.arti_aql_lex.specs.Lexed.{token, lexed}
use Rattle.arti_aql_lex.specs.Tokens.{is_blank, is_name_start, is_name_byte, mark_of, number_end, token_at, value_at}
use Rattle.arti_aql_lex.specs.declared.token.Token.{Token}
use Rattle.arti_aql_lex.specs.declared.token.TokenKind.{TokenKind}
use Rattle.arti_aql_lex.specs.declared.token.TokenKind.TheVariants.{Name, Words, Number, Dot, Open, Close, ObjectOpen, ObjectClose, ListOpen, ListClose, Colon, Comma}
use Rattle.arti_aql_parse.proofs.PrintPieces.{piece}

-- bytes of a token already seen are passed over
passed : (a : List ℕ) (p : ℕ) (rest : List ℕ) → lexed p (length a) (a ++ rest) ≡ lexed (p + length a) 0 rest
unfolding lexed
passed [] p rest = let e : p ≡ p + 0 = omega arith in ap (λ q. lexed q 0 rest) e
passed (b ∷ bs) p rest = let e : p + 1 + length bs ≡ p + suc (length bs) = omega arith in passed bs (p + 1) rest ∙ ap (λ q. lexed q 0 rest) e

end_passed : (a : List ℕ) (o p : ℕ) (rest : List ℕ) → literal_end o p (length a) (a ++ rest) ≡ literal_end o (p + length a) 0 rest
unfolding literal_end
end_passed [] o p rest = let e : p ≡ p + 0 = omega arith in ap (λ q. literal_end o q 0 rest) e
end_passed (b ∷ bs) o p rest = let e : p + 1 + length bs ≡ p + suc (length bs) = omega arith in end_passed bs o (p + 1) rest ∙ ap (λ q. literal_end o q 0 rest) e

text_passed : (a rest : List ℕ) → literal_text (length a) (a ++ rest) ≡ literal_text 0 rest
unfolding literal_text
text_passed [] rest = refl
text_passed (b ∷ bs) rest = text_passed bs rest

end_piece : (c o p : ℕ) (rest : List ℕ) → literal_end o p 0 (escape_byte c ++ rest) ≡ literal_end o (p + length (escape_byte c)) 0 rest
unfolding literal_end
end_piece c o p rest =
    let x = piece c in
    let step : literal_end o p 0 (x.first ∷ (x.others ++ rest)) ≡ literal_end o (p + 1) (suc (length x.others) - 1) (x.others ++ rest) = rw (x.no_quote, x.len o p rest) refl in
    let less : suc (length x.others) - 1 ≡ length x.others = omega arith in
    let long : p + 1 + length x.others ≡ p + length (escape_byte c) = omega (arith, ap length x.whole) in
    ap (λ l. literal_end o p 0 (l ++ rest)) x.whole ∙ step ∙ ap (λ n. literal_end o (p + 1) n (x.others ++ rest)) less ∙ end_passed x.others o (p + 1) rest ∙ ap (λ q. literal_end o q 0 rest) long

text_piece : (c : ℕ) (rest : List ℕ) → literal_text 0 (escape_byte c ++ rest) ≡ c ∷ literal_text 0 rest
unfolding literal_text
text_piece c rest =
    let x = piece c in
    let step : literal_text 0 (x.first ∷ (x.others ++ rest)) ≡ piece_text (x.first ∷ (x.others ++ rest)) ++ literal_text (piece_width (x.first ∷ (x.others ++ rest)) - 1) (x.others ++ rest) = rw x.no_quote refl in
    let less : suc (length x.others) - 1 ≡ length x.others = omega arith in
    ap (λ l. literal_text 0 (l ++ rest)) x.whole ∙ step ∙ ap (λ l. l ++ literal_text (piece_width (x.first ∷ (x.others ++ rest)) - 1) (x.others ++ rest)) (x.text rest)
    ∙ ap (λ l. c ∷ l) (ap (λ n. literal_text (n - 1) (x.others ++ rest)) (x.width rest) ∙ ap (λ n. literal_text n (x.others ++ rest)) less ∙ text_passed x.others rest)

end_text : (s : List ℕ) (o p : ℕ) (rest : List ℕ) → literal_end o p 0 (escape s ++ 34 ∷ rest) ≡ Ok (p + length (escape s) + 1)
unfolding literal_end
end_text [] o p rest = let e : p + 1 ≡ p + 0 + 1 = omega arith in ap Ok e
end_text (c ∷ s) o p rest =
    let long : p + length (escape_byte c) + length (escape s) + 1 ≡ p + length (escape_byte c ++ escape s) + 1 = omega (arith, length-append (escape_byte c) (escape s)) in
    ap (literal_end o p 0) (append_assoc (escape_byte c) (escape s) (34 ∷ rest)) ∙ end_piece c o p (escape s ++ 34 ∷ rest) ∙ end_text s o (p + length (escape_byte c)) rest ∙ ap Ok long

value_text : (s rest : List ℕ) → literal_text 0 (escape s ++ 34 ∷ rest) ≡ s
unfolding literal_text
value_text [] rest = refl
value_text (c ∷ s) rest = ap (literal_text 0) (append_assoc (escape_byte c) (escape s) (34 ∷ rest)) ∙ text_piece c (escape s ++ 34 ∷ rest) ∙ ap (λ l. c ∷ l) (value_text s rest)

-- a token at the front of bytes
front : (p e b : ℕ) (bs rest : List ℕ) (kind : TokenKind) → is_blank b ≡ false → token_at p (b ∷ (bs ++ rest)) ≡ Ok (record { kind = kind; start = p; end = e }) → e ≡ p + suc (length bs)
    → lexed p 0 (b ∷ (bs ++ rest)) ≡ token p e kind (value_at (record { kind = kind; start = p; end = e }) (b ∷ (bs ++ rest))) (lexed e 0 rest)
unfolding lexed
front p e b bs rest kind first found long =
    let t : Token = record { kind = kind; start = p; end = e } in
    let value = value_at t (b ∷ (bs ++ rest)) in
    let step : lexed p 0 (b ∷ (bs ++ rest)) ≡ token p e kind value (lexed (p + 1) (e - p - 1) (bs ++ rest)) = rw (first, found) refl in
    let more : e - p - 1 ≡ length bs = omega arith in
    let place : p + 1 + length bs ≡ e = omega arith in
    step ∙ ap (λ n. token p e kind value (lexed (p + 1) n (bs ++ rest))) more ∙ ap (token p e kind value) (passed bs (p + 1) rest ∙ ap (λ q. lexed q 0 rest) place)

some : (n : ℕ) → (suc n == 0) ≡ false
some n = grind (arith, nat_tests)

-- these bytes begin with the token that stands for the value, and the rest comes behind it
pub record Begins (p : ℕ) (bytes : List ℕ) (kind : TokenKind) (value rest : List ℕ) : Type 0 where
  pub end : ℕ
  pub is : lexed p 0 bytes ≡ token p end kind value (lexed end 0 rest)

pub words_begin : (s : List ℕ) (p : ℕ) (rest : List ℕ) → Begins p (quoted s ++ rest) Words s rest
unfolding token_at
words_begin s p rest =
    let bs = escape s ++ 34 ∷ [] in
    let e = p + 1 + length (escape s) + 1 in
    let behind : bs ++ rest ≡ escape s ++ 34 ∷ rest = append_assoc (escape s) (34 ∷ []) rest in
    let end : literal_end p (p + 1) 0 (bs ++ rest) ≡ Ok e = ap (literal_end p (p + 1) 0) behind ∙ end_text s p (p + 1) rest in
    let found : token_at p (34 ∷ (bs ++ rest)) ≡ Ok (record { kind = Words; start = p; end = e }) = rw (some (length (bs ++ rest)), end) refl in
    let value : literal_text 0 (bs ++ rest) ≡ s = ap (literal_text 0) behind ∙ value_text s rest in
    let long : e ≡ p + suc (length bs) = omega (arith, length-append (escape s) (34 ∷ [])) in
    record { end = e; is = front p e 34 bs rest Words refl found long ∙ ap (λ v. token p e Words v (lexed e 0 rest)) value }

-- a mark at the front
mark_begins : (b : ℕ) (kind : TokenKind) → is_blank b ≡ false → is_name_start b ≡ false → (is_ascii_digit b || (b == 45)) ≡ false → (b == 34) ≡ false → mark_of b ≡ Some kind → (p : ℕ) (rest : List ℕ) → (value : List ℕ) × Begins p (b ∷ rest) kind value rest
unfolding token_at
mark_begins b kind first name number quote mark p rest =
    let found : token_at p (b ∷ rest) ≡ Ok (record { kind = kind; start = p; end = p + 1 }) = rw (some (length rest), name, number, quote, mark) refl in
    (value_at (record { kind = kind; start = p; end = p + 1 }) (b ∷ rest), record { end = p + 1; is = front p (p + 1) b [] rest kind first found refl })

pub dot_begins : (p : ℕ) (rest : List ℕ) → (value : List ℕ) × Begins p (46 ∷ rest) Dot value rest
unfolding mark_of
dot_begins = mark_begins 46 Dot refl refl refl refl refl

pub open_begins : (p : ℕ) (rest : List ℕ) → (value : List ℕ) × Begins p (40 ∷ rest) Open value rest
unfolding mark_of
open_begins = mark_begins 40 Open refl refl refl refl refl

pub close_begins : (p : ℕ) (rest : List ℕ) → (value : List ℕ) × Begins p (41 ∷ rest) Close value rest
unfolding mark_of
close_begins = mark_begins 41 Close refl refl refl refl refl

pub brace_begins : (p : ℕ) (rest : List ℕ) → (value : List ℕ) × Begins p (123 ∷ rest) ObjectOpen value rest
unfolding mark_of
brace_begins = mark_begins 123 ObjectOpen refl refl refl refl refl

pub brace_end_begins : (p : ℕ) (rest : List ℕ) → (value : List ℕ) × Begins p (125 ∷ rest) ObjectClose value rest
unfolding mark_of
brace_end_begins = mark_begins 125 ObjectClose refl refl refl refl refl

pub bracket_begins : (p : ℕ) (rest : List ℕ) → (value : List ℕ) × Begins p (91 ∷ rest) ListOpen value rest
unfolding mark_of
bracket_begins = mark_begins 91 ListOpen refl refl refl refl refl

pub bracket_end_begins : (p : ℕ) (rest : List ℕ) → (value : List ℕ) × Begins p (93 ∷ rest) ListClose value rest
unfolding mark_of
bracket_end_begins = mark_begins 93 ListClose refl refl refl refl refl

pub colon_begins : (p : ℕ) (rest : List ℕ) → (value : List ℕ) × Begins p (58 ∷ rest) Colon value rest
unfolding mark_of
colon_begins = mark_begins 58 Colon refl refl refl refl refl

pub comma_begins : (p : ℕ) (rest : List ℕ) → (value : List ℕ) × Begins p (44 ∷ rest) Comma value rest
unfolding mark_of
comma_begins = mark_begins 44 Comma refl refl refl refl refl

seam : (p b : ℕ) (bs rest : List ℕ) → take (p + suc (length bs) - p) (b ∷ (bs ++ rest)) ≡ b ∷ bs
seam p b bs rest = let n : p + suc (length bs) - p ≡ length (b ∷ bs) = omega arith in ap (λ k. take k (b ∷ (bs ++ rest))) n ∙ take-append_seam (b ∷ bs) rest

pub both : (a b : Bool) → a && b ≡ true → (a ≡ true) × (b ≡ true)
both true b h = (refl, h)
both false b h = absurd (false≢true h)

-- how far bytes with a property go that others without it follow
pub front_len : (q : ℕ → Bool) (bs rest : List ℕ) → list_all q bs ≡ true → prefix_len q rest ≡ 0 → prefix_len q (bs ++ rest) ≡ length bs
front_len q [] rest all stop = stop
front_len q (b ∷ bs) rest all stop =
    let h = both (q b) (list_all q bs) all in
    let step : prefix_len q (b ∷ (bs ++ rest)) ≡ 1 + prefix_len q (bs ++ rest) = rw h.0 refl in
    step ∙ ap (λ n. 1 + n) (front_len q bs rest h.1 stop) ∙ one-add (length bs)

name_no_blank : (b : ℕ) → is_name_start b ≡ true → is_blank b ≡ false
name_no_blank b h = grind (arith, nat_tests)

-- a name, whose bytes go so far
pub name_begins : (b : ℕ) (bs : List ℕ) (p : ℕ) (rest : List ℕ) → is_name_start b ≡ true → prefix_len is_name_byte (b ∷ (bs ++ rest)) ≡ suc (length bs) → Begins p (b ∷ (bs ++ rest)) Name (b ∷ bs) rest
unfolding token_at
name_begins b bs p rest first all =
    let e = p + suc (length bs) in
    let found : token_at p (b ∷ (bs ++ rest)) ≡ Ok (record { kind = Name; start = p; end = e }) = rw (some (length (bs ++ rest)), all, first) refl in
    record { end = e; is = front p e b bs rest Name (name_no_blank b first) found refl ∙ ap (λ v. token p e Name v (lexed e 0 rest)) (seam p b bs rest) }

number_no_blank : (b : ℕ) → (is_ascii_digit b || (b == 45)) ≡ true → is_blank b ≡ false
number_no_blank b h = grind (arith, nat_tests)

number_no_name : (b : ℕ) → (is_ascii_digit b || (b == 45)) ≡ true → is_name_start b ≡ false
number_no_name b h = grind (arith, nat_tests)

pub number_begins : (b : ℕ) (bs : List ℕ) (p : ℕ) (rest : List ℕ) → (is_ascii_digit b || (b == 45)) ≡ true → number_end p (b ∷ (bs ++ rest)) ≡ Ok (p + suc (length bs)) → Begins p (b ∷ (bs ++ rest)) Number (b ∷ bs) rest
unfolding token_at
number_begins b bs p rest first end =
    let e = p + suc (length bs) in
    let found : token_at p (b ∷ (bs ++ rest)) ≡ Ok (record { kind = Number; start = p; end = e }) = rw (some (length (bs ++ rest)), number_no_name b first, first, end) refl in
    record { end = e; is = front p e b bs rest Number (number_no_blank b first) found refl ∙ ap (λ v. token p e Number v (lexed e 0 rest)) (seam p b bs rest) }
