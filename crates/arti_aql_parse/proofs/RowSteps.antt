-- Rows of parts that are read one after the other.
use Rattle.std.proofs.Common.{◌≡◌, ℕ, zero, suc, ◌+◌, ◌-◌, ◌<◌, ◌≤◌, ◌^◌, List, [], ◌∷◌, ◌++◌, Some, sym, ap, subst, arith, append_assoc, true, false}
use Rattle.std.proofs.lemmas.Bool.{false≢true}
use Rattle.std.proofs.lemmas.Grind.{pow_more}
use Rattle.arti_aql_lex.specs.Lexed.{Lexed, finish, fault, token}
use Rattle.arti_aql_lex.specs.Tokens.{is_end}
use Rattle.arti_aql_lex.specs.declared.token.TokenKind.{TokenKind}
use Rattle.arti_aql_parse.specs.Front.{kind_at, tail, is_token}
use Rattle.arti_aql_parse.proofs.Steps.{is_token_kind}
use Rattle.arti_aql_parse.specs.declared.fault.ReadFault.{ReadFault}

-- how many tokens are to come
abbrev pub size : Lexed → ℕ
size (finish at) = 0
size (fault f) = 0
size (token s e kind value rest) = suc (size rest)

pub size_tail : (a : Lexed) → is_token a ≡ true → size (tail a) < size a
size_tail (finish at) h = absurd (false≢true h)
size_tail (fault f) h = absurd (false≢true h)
size_tail (token s e kind value rest) h = omega arith

-- what is read from here on is read from the start, behind what was read already; and a refusal from here on is one from the start
pub record Goes {X : Type 0} (Reads : Lexed → List X → Lexed → Type 0) (Refuses : Lexed → ReadFault → Type 0) (start now : Lexed) (front : List X) : Type 0 where
  pub reads : (xs : List X) (b : Lexed) → Reads now xs b → Reads start (front ++ xs) b
  pub refuses : (f : ReadFault) → Refuses now f → Refuses start f

pub goes_from : {X : Type 0} (Reads : Lexed → List X → Lexed → Type 0) (Refuses : Lexed → ReadFault → Type 0) (start : Lexed) → Goes Reads Refuses start start []
goes_from Reads Refuses start = record { reads = λ xs b r. r; refuses = λ f r. r }

-- one more part was read, and a comma behind it
pub goes_on : {X : Type 0} (Reads : Lexed → List X → Lexed → Type 0) (Refuses : Lexed → ReadFault → Type 0) (start now next : Lexed) (front : List X) (x : X)
    → ((xs : List X) (b : Lexed) → Reads next xs b → Reads now (x ∷ xs) b) → ((f : ReadFault) → Refuses next f → Refuses now f) → Goes Reads Refuses start now front → Goes Reads Refuses start next (front ++ x ∷ [])
goes_on Reads Refuses start now next front x more later g = record {
  reads = λ xs b r. subst (λ l. Reads start l b) (sym (append_assoc front (x ∷ []) xs)) (g.reads (x ∷ xs) b (more xs b r));
  refuses = λ f r. g.refuses f (later f r);
}

pow_ten : (i k : ℕ) → 10 ^ i ≤ 10 ^ (i + k)
pow_ten i zero = let e : i + 0 ≡ i = omega arith in rw e (omega arith)
pow_ten i (suc k) = let e : i + suc k ≡ i + k + 1 = omega arith in rw e (omega (arith, pow_more 10 (i + k), pow_ten i k))

-- so many digits write a number below this
pub digits_small : (v i n : ℕ) → v < 10 ^ i → i ≤ n → v < 10 ^ n
digits_small v i n small few = let e : i + (n - i) ≡ n = omega arith in omega (arith, pow_ten i (n - i), ap (λ (k : ℕ). 10 ^ k) e)

pub tail_le : (a : Lexed) → size (tail a) ≤ size a
tail_le (finish at) = omega arith
tail_le (fault f) = omega arith
tail_le (token s e kind value rest) = omega arith

-- a token of a kind that isn't the end takes one away
pub front_smaller : (kind : TokenKind) (a : Lexed) → is_end kind ≡ false → kind_at a ≡ Some kind → size (tail a) < size a
front_smaller kind a other here = size_tail a (is_token_kind kind a other here)
