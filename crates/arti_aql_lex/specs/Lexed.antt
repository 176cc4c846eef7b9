-- A text as the row of its tokens.
use Rattle.std.specs.Prelude.{◌≡◌, ℕ, zero, suc, ◌+◌, ◌-◌, List, [], ◌∷◌, drop, if◌then◌else◌, Result, Ok, Err}
use Rattle.arti_aql_lex.specs.Tokens.{is_blank, token_at, value_at, text_of, is_end, HasToken}
use Rattle.arti_aql_lex.specs.declared.token.LexFault.{LexFault}
use Rattle.arti_aql_lex.specs.declared.token.Token.{Token}
use Rattle.arti_aql_lex.specs.declared.token.TokenKind.{TokenKind}

-- The tokens, each with its places and what it stands for, up to the end of the text or to the first fault.
pub data Lexed : Type 0 where
  finish : (at : ℕ) → Lexed
  fault : LexFault → Lexed
  token : (start end : ℕ) (kind : TokenKind) (value : List ℕ) (rest : Lexed) → Lexed

-- the token at the front, and what follows it, which goes on after so many more bytes
abbrev pub begins : Result Token LexFault → List ℕ → (ℕ → Lexed) → Lexed
begins (Ok t) rest more = token t.start t.end t.kind (value_at t rest) (more (t.end - t.start - 1))
begins (Err f) rest more = fault f

-- The tokens of a text from a place on. The next one begins after so many more bytes, or at the first byte then that is no blank.
unfoldable pub lexed : (place more : ℕ) → List ℕ → Lexed
lexed place more [] = finish place
lexed place (suc n) (b ∷ bs) = lexed (place + 1) n bs
lexed place zero (b ∷ bs) = if is_blank b then lexed (place + 1) 0 bs else begins (token_at place (b ∷ bs)) (b ∷ bs) (λ n. lexed (place + 1) n bs)

-- a text, and how far it was read
pub record Reading : Type 0 where
  pub text : List ℕ
  pub at : ℕ

-- the tokens that are to come
abbrev pub ahead : Reading → Lexed
ahead r = lexed r.at 0 (drop r.at r.text)

-- a token before others, or the end of the text
abbrev pub before : List ℕ → Token → Lexed → Lexed
before text t rest = if is_end t.kind then finish t.start else token t.start t.end t.kind (text_of text t) rest

-- the token was the first of those to come, and the others are still to come
pub record Takes (old : Reading) (t : Token) (new : Reading) : Type 0 where
  pub first : ahead old ≡ before old.text t (ahead new)
  pub there : HasToken old.text t
  pub same_text : new.text ≡ old.text
  pub reads_on : new.at ≡ t.end
