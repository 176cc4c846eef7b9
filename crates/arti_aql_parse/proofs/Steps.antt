-- Steps over the tokens that are to come.
use Rattle.std.proofs.Common.{◌≡◌, Bool, true, false, cond, Some, None, Result, Ok, Err, IfOk, IfErr, refl, sym, ap, ◌∙◌}
use Rattle.std.proofs.lemmas.Bool.{false≢true}
use Rattle.arti_aql_lex.specs.Lexed.{Lexed, finish, fault, token, Reading, ahead, before, Takes}
use Rattle.arti_aql_lex.specs.Tokens.{is_end, text_of}
use Rattle.arti_aql_lex.specs.declared.token.Token.{Token}
use Rattle.arti_aql_lex.specs.declared.token.TokenKind.{TokenKind}
use Rattle.arti_aql_lex.specs.declared.token.TokenKind.TheVariants.{End}
use Rattle.arti_aql_lex.specs.declared.token.LexFault.{LexFault}
use Rattle.arti_aql_parse.specs.Ahead.{shown}
use Rattle.arti_aql_parse.specs.Front.{kind_at, first_value, tail, is_token}

-- what a call of the lexer leaves to come
pub shown_next : (r : Result Token LexFault) (old new : Reading) → IfOk r (λ t. Takes old t new) → IfErr r (λ f. (ahead old ≡ fault f) × (new ≡ old)) → shown r new ≡ ahead old
shown_next (Ok t) old new takes fails = ap (λ text. before text t (ahead new)) takes.same_text ∙ sym takes.first
shown_next (Err f) old new takes fails = sym fails.0

-- behind a first token comes what is ahead
pub tail_shown : (r : Result Token LexFault) (behind : Reading) → is_token (shown r behind) ≡ true → tail (shown r behind) ≡ ahead behind
tail_shown (Err f) behind h = absurd (false≢true h)
tail_shown (Ok t) behind h = by_end (is_end t.kind) h
  where
    by_end : (b : Bool) → is_token (cond b (finish t.start) (token t.start t.end t.kind (text_of behind.text t) (ahead behind))) ≡ true
        → tail (cond b (finish t.start) (token t.start t.end t.kind (text_of behind.text t) (ahead behind))) ≡ ahead behind
    by_end true e = absurd (false≢true e)
    by_end false e = refl

-- a token of a kind that isn't the end comes first
pub is_token_kind : (kind : TokenKind) (a : Lexed) → is_end kind ≡ false → kind_at a ≡ Some kind → is_token a ≡ true
is_token_kind kind (finish at) other e = let is : End ≡ kind = cc in absurd (false≢true (sym other ∙ ap is_end (sym is)))
is_token_kind kind (fault f) other e = let never : None ≡ Some kind = e in cc
is_token_kind kind (token s d k v rest) other e = refl

-- the kind of the first token of a text
pub kind_shown : (t : Token) (kind : TokenKind) (behind : Reading) → is_end kind ≡ false → kind_at (shown (Ok t) behind) ≡ Some kind → t.kind ≡ kind
kind_shown t kind behind other e = by_end (is_end t.kind) e
  where
    by_end : (b : Bool) → kind_at (cond b (finish t.start) (token t.start t.end t.kind (text_of behind.text t) (ahead behind))) ≡ Some kind → t.kind ≡ kind
    by_end true h = let is : End ≡ kind = cc in absurd (false≢true (sym other ∙ ap is_end (sym is)))
    by_end false h = let same : Some t.kind ≡ Some kind = h in cc

-- what the first token of a text stands for
pub value_shown : (t : Token) (behind : Reading) → is_token (shown (Ok t) behind) ≡ true → first_value (shown (Ok t) behind) ≡ text_of behind.text t
value_shown t behind h = by_end (is_end t.kind) h
  where
    by_end : (b : Bool) → is_token (cond b (finish t.start) (token t.start t.end t.kind (text_of behind.text t) (ahead behind))) ≡ true
        → first_value (cond b (finish t.start) (token t.start t.end t.kind (text_of behind.text t) (ahead behind))) ≡ text_of behind.text t
    by_end true e = absurd (false≢true e)
    by_end false e = refl
