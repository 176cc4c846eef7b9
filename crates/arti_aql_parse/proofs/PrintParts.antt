-- Printed texts, literals and tests are read as what they print.
use Rattle.std.proofs.Common.{◌≡◌, ◌≢◌, ℕ, ◌<◌, Bool, true, false, cond, List, [], ◌∷◌, ◌++◌, map, Some, refl, sym, ap, ◌∙◌, subst, arith, append_assoc}
use Rattle.std.specs.Prelude.{codes}
use Rattle.std.specs.List.{prefix_len}
use Rattle.std.specs.Char.{is_ascii_digit}
use Rattle.std.proofs.lemmas.Bool.{false≢true}
use Rattle.std.proofs.lemmas.Bool.Decides.{nat_tests}
use Rattle.json.specs.Print.{quoted}
use Rattle.arti_aql_lex.specs.Lexed.{Lexed, lexed}
use Rattle.arti_aql_lex.specs.Tokens.{is_name_byte}
use Rattle.arti_aql_lex.specs.declared.token.TokenKind.{TokenKind}
use Rattle.arti_aql_lex.specs.declared.token.TokenKind.TheVariants.{Name, Words, Number, ObjectOpen}
use Rattle.arti_aql_parse.specs.Front.{kind_at, first_value, tail, literal_of, literal_at}
use Rattle.arti_aql_parse.specs.Grammar as grammar
use Rattle.arti_aql_parse.specs.Grammar.{Mark, ReadsText, ReadsTexts, ReadsTest, ReadsTests, ReadsKey, ReadsOperand}
use Rattle.arti_aql_parse.specs.Print.{op_name, is_equality, literal_text, row, test_text, tests_text, operand_text}
use Rattle.arti_aql_parse.specs.Spellable.{FitsLiteral, FitTests, FitsOperand}
use Rattle.arti_aql_parse.specs.Words.{op_of, is_null}
use Rattle.arti_aql_parse.specs.declared.query.Lit.{Lit}
use Rattle.arti_aql_parse.specs.declared.query.Lit.TheVariants as lit
use Rattle.arti_aql_parse.specs.declared.query.Op.{Op}
use Rattle.arti_aql_parse.specs.declared.query.Op.TheVariants.{Eq, Ne, Gt, Gte, Lt, Lte, Match, Nmatch, Before, Last}
use Rattle.arti_aql_parse.specs.declared.query.Test.{Test}
use Rattle.arti_aql_parse.proofs.PrintTokens.{Begins, words_begin, name_begins, brace_begins, brace_end_begins, colon_begins, comma_begins}
use Rattle.arti_aql_parse.proofs.PrintNumbers.{number_printed}

pub mark_of_begins : {kind : TokenKind} {p : ℕ} {bytes value rest : List ℕ} → (b : Begins p bytes kind value rest) → Mark kind (lexed p 0 bytes) (lexed b.end 0 rest)
mark_of_begins b = record { here = ap kind_at b.is; rest = sym (ap tail b.is) }

pub text_reads : (s : List ℕ) (p : ℕ) (rest : List ℕ) → (e : ℕ) × ReadsText (lexed p 0 (quoted s ++ rest)) s (lexed e 0 rest)
text_reads s p rest = let w = words_begin s p rest in (w.end, record { here = ap kind_at w.is; value = sym (ap first_value w.is); rest = sym (ap tail w.is) })

-- a mark that closes a row
abbrev pub Closes : TokenKind → ℕ → Type 0
Closes kind c = (p : ℕ) (rest : List ℕ) → (value : List ℕ) × Begins p (c ∷ rest) kind value rest

-- the next part of a row, behind its comma
row_more : (x y rest : List ℕ) (c : ℕ) → (x ++ 44 ∷ y) ++ c ∷ rest ≡ x ++ 44 ∷ (y ++ c ∷ rest)
row_more x y rest c = append_assoc x (44 ∷ y) (c ∷ rest)

pub texts_read : (closing : TokenKind) (c : ℕ) → Closes closing c → (xs : List (List ℕ)) → xs ≢ [] → (p : ℕ) (rest : List ℕ) → (e : ℕ) × ReadsTexts closing (lexed p 0 (row (map quoted xs) ++ c ∷ rest)) xs (lexed e 0 rest)
texts_read closing c closes [] some p rest = absurd (some refl)
texts_read closing c closes (x ∷ []) some p rest =
    let t = text_reads x p (c ∷ rest) in
    let m = closes t.0 rest in
    (m.1.end, grammar.last_text t.1 (mark_of_begins m.1))
texts_read closing c closes (x ∷ y ∷ ys) some p rest =
    let more = row (map quoted (y ∷ ys)) ++ c ∷ rest in
    let t = text_reads x p (44 ∷ more) in
    let m = comma_begins t.0 more in
    let r = texts_read closing c closes (y ∷ ys) (λ e. cc) m.1.end rest in
    (r.0, subst (λ s. ReadsTexts closing (lexed p 0 s) (x ∷ y ∷ ys) (lexed r.0 0 rest)) (sym (row_more (quoted x) (row (map quoted (y ∷ ys))) rest c)) (grammar.more_texts t.1 (mark_of_begins m.1) r.1))

pub key_reads : (key : List ℕ) (p : ℕ) (rest : List ℕ) → (e : ℕ) × ReadsKey (lexed p 0 (quoted key ++ 58 ∷ rest)) key (lexed e 0 rest)
key_reads key p rest =
    let w = words_begin key p (58 ∷ rest) in
    let c = colon_begins w.end rest in (
      c.1.end,
      record {
        here = ap kind_at w.is;
        value = sym (ap first_value w.is);
        colon = ap (λ v. kind_at (tail v)) w.is ∙ ap kind_at c.1.is;
        rest = sym (ap (λ v. tail (tail v)) w.is ∙ ap tail c.1.is);
      },
    )

-- the first token is this literal, and these tokens follow it
pub record ReadsLiteral (a : Lexed) (x : Lit) (b : Lexed) : Type 0 where
  pub no_brace : kind_at a ≢ Some ObjectOpen
  pub literal : literal_at a ≡ Some x
  pub rest : b ≡ tail a

no_digit : (b : ℕ) → is_name_byte b ≡ false → is_ascii_digit b ≡ false
no_digit b h = grind (arith, nat_tests)

stops : (b : ℕ) (rest : List ℕ) → is_name_byte b ≡ false → prefix_len is_ascii_digit (b ∷ rest) ≡ 0
stops b rest h = rw (no_digit b h) refl

null_begins : (p b : ℕ) (rest : List ℕ) → is_name_byte b ≡ false → Begins p (codes "null" ++ b ∷ rest) Name (codes "null") (b ∷ rest)
null_begins p b rest stop = name_begins 110 (117 ∷ 108 ∷ 108 ∷ []) p (b ∷ rest) refl (rw stop refl)

null_known : literal_of Name (codes "null") ≡ Some lit.Null
unfolding is_null
null_known = refl

pub literal_reads : (x : Lit) (p b : ℕ) (rest : List ℕ) → FitsLiteral x → is_name_byte b ≡ false → (e : ℕ) × ReadsLiteral (lexed p 0 (literal_text x ++ b ∷ rest)) x (lexed e 0 (b ∷ rest))
unfolding literal_text
literal_reads (lit.Words text) p b rest fits stop =
    let w = words_begin text p (b ∷ rest) in (
      w.end,
      record {
        no_brace = λ h. let never : Some Words ≡ Some ObjectOpen = sym (ap kind_at w.is) ∙ h in cc;
        literal = ap literal_at w.is;
        rest = sym (ap tail w.is);
      },
    )
literal_reads (lit.Number n) p b rest fits stop =
    let w = number_printed n p (b ∷ rest) fits (stops b rest stop) in (
      w.1.end,
      record {
        no_brace = λ h. let never : Some Number ≡ Some ObjectOpen = sym (ap kind_at w.1.is) ∙ h in cc;
        literal = ap literal_at w.1.is ∙ ap (λ v. Some (lit.Number v)) w.2;
        rest = sym (ap tail w.1.is);
      },
    )
literal_reads lit.Null p b rest fits stop =
    let w = null_begins p b rest stop in (
      w.end,
      record {
        no_brace = λ h. let never : Some Name ≡ Some ObjectOpen = sym (ap kind_at w.is) ∙ h in cc;
        literal = ap literal_at w.is ∙ null_known;
        rest = sym (ap tail w.is);
      },
    )

op_known : (op : Op) → op_of (op_name op) ≡ Some op
unfolding op_of op_name
op_known Eq = refl
op_known Ne = refl
op_known Gt = refl
op_known Gte = refl
op_known Lt = refl
op_known Lte = refl
op_known Match = refl
op_known Nmatch = refl
op_known Before = refl
op_known Last = refl

test_reads : (t : Test) (p b : ℕ) (rest : List ℕ) → FitsLiteral t.value → is_name_byte b ≡ false → (e : ℕ) × ReadsTest (lexed p 0 (test_text t ++ b ∷ rest)) t (lexed e 0 (b ∷ rest))
unfolding test_text
test_reads t p b rest fits stop =
    let more = literal_text t.value ++ b ∷ rest in
    let w = words_begin (op_name t.op) p (58 ∷ more) in
    let c = colon_begins w.end more in
    let l = literal_reads t.value c.1.end b rest fits stop in
    let r : ReadsTest (lexed p 0 (quoted (op_name t.op) ++ 58 ∷ more)) t (lexed l.0 0 (b ∷ rest)) = record {
      here = ap kind_at w.is;
      operator = ap (λ v. op_of (first_value v)) w.is ∙ op_known t.op;
      colon = ap (λ v. kind_at (tail v)) w.is ∙ ap kind_at c.1.is;
      literal = ap (λ v. literal_at (tail (tail v))) w.is ∙ ap (λ v. literal_at (tail v)) c.1.is ∙ l.1.literal;
      rest = l.1.rest ∙ sym (ap (λ v. tail (tail (tail v))) w.is ∙ ap (λ v. tail (tail v)) c.1.is);
    } in
    (l.0, subst (λ s. ReadsTest (lexed p 0 s) t (lexed l.0 0 (b ∷ rest))) (sym (append_assoc (quoted (op_name t.op)) (58 ∷ literal_text t.value) (b ∷ rest))) r)

tests_read : (ts : List Test) → ts ≢ [] → FitTests ts → (p : ℕ) (rest : List ℕ) → (e : ℕ) × ReadsTests (lexed p 0 (row (map test_text ts) ++ 125 ∷ rest)) ts (lexed e 0 rest)
tests_read [] some fit p rest = absurd (some refl)
tests_read (t ∷ []) some fit p rest =
    let r = test_reads t p 125 rest fit.0 refl in
    let m = brace_end_begins r.0 rest in
    (m.1.end, grammar.last_test r.1 (mark_of_begins m.1))
tests_read (t ∷ u ∷ us) some fit p rest =
    let more = row (map test_text (u ∷ us)) ++ 125 ∷ rest in
    let x = test_reads t p 44 more fit.0 refl in
    let m = comma_begins x.0 more in
    let r = tests_read (u ∷ us) (λ e. cc) fit.1 m.1.end rest in
    (r.0, subst (λ s. ReadsTests (lexed p 0 s) (t ∷ u ∷ us) (lexed r.0 0 rest)) (sym (row_more (test_text t) (row (map test_text (u ∷ us))) rest 125)) (grammar.more_tests x.1 (mark_of_begins m.1) r.1))

-- tests in braces
braced_read : (ts : List Test) (n : ℕ) → ts ≢ [] → FitTests ts → 0 < n → (p : ℕ) (rest : List ℕ) → (e : ℕ) × ReadsOperand n (lexed p 0 (tests_text ts ++ rest)) ts (lexed e 0 rest)
unfolding tests_text
braced_read ts n some fit left p rest =
    let inside = row (map test_text ts) in
    let m = brace_begins p (inside ++ 125 ∷ rest) in
    let r = tests_read ts some fit m.1.end rest in
    let whole : (inside ++ 125 ∷ []) ++ rest ≡ inside ++ 125 ∷ rest = append_assoc inside (125 ∷ []) rest in
    (r.0, subst (λ s. ReadsOperand n (lexed p 0 (123 ∷ s)) ts (lexed r.0 0 rest)) (sym whole) (grammar.compares left (mark_of_begins m.1) r.1))

equality_is : (op : Op) → is_equality op ≡ true → Eq ≡ op
equality_is Eq h = refl
equality_is Ne h = absurd (false≢true h)
equality_is Gt h = absurd (false≢true h)
equality_is Gte h = absurd (false≢true h)
equality_is Lt h = absurd (false≢true h)
equality_is Lte h = absurd (false≢true h)
equality_is Match h = absurd (false≢true h)
equality_is Nmatch h = absurd (false≢true h)
equality_is Before h = absurd (false≢true h)
equality_is Last h = absurd (false≢true h)

single_reads : (t : Test) (n : ℕ) (q : Bool) → is_equality t.op ≡ q → (p b : ℕ) (rest : List ℕ) → FitsLiteral t.value → (is_equality t.op ≡ false → 0 < n) → is_name_byte b ≡ false
    → (e : ℕ) × ReadsOperand n (lexed p 0 (cond q (literal_text t.value) (tests_text (t ∷ [])) ++ b ∷ rest)) (t ∷ []) (lexed e 0 (b ∷ rest))
single_reads t n true is p b rest fits left stop =
    let l = literal_reads t.value p b rest fits stop in
    let same : record { op = Eq; value = t.value } ≡ t = (λ j. record { op = equality_is t.op is j; value = t.value }) in
    (l.0, subst (λ (u : Test). ReadsOperand n (lexed p 0 (literal_text t.value ++ b ∷ rest)) (u ∷ []) (lexed l.0 0 (b ∷ rest))) same (grammar.equals l.1.no_brace l.1.literal l.1.rest))
single_reads t n false is p b rest fits left stop = braced_read (t ∷ []) n (λ e. cc) (fits, tt) (left is) p (b ∷ rest)

pub operand_reads : (ts : List Test) (n : ℕ) → FitsOperand ts n → (p b : ℕ) (rest : List ℕ) → is_name_byte b ≡ false → (e : ℕ) × ReadsOperand n (lexed p 0 (operand_text ts ++ b ∷ rest)) ts (lexed e 0 (b ∷ rest))
unfolding operand_text
operand_reads [] n fits p b rest stop = absurd fits
operand_reads (t ∷ []) n fits p b rest stop = single_reads t n (is_equality t.op) refl p b rest fits.0 fits.1 stop
operand_reads (t ∷ u ∷ us) n fits p b rest stop = braced_read (t ∷ u ∷ us) n (λ e. cc) fits.0 fits.1 p (b ∷ rest)
