-- The one form of query that asks for the items of a repository.
use Rattle.std.specs.Prelude.{◌≡◌, ℕ, ◌<◌, ◌≤◌, List, ◌++◌, length, take, Bool, true, ◌==◌, ◌||◌, slice_index, Result, Ok, Err}
use Rattle.std.specs.Char.{is_ascii_digit, is_ascii_alphabetic}
use Rattle.arti_aql_parse.specs.declared.thin.TheConstants.{BEFORE_KEY, AFTER_KEY}
use Rattle.arti_aql_parse.specs.declared.thin.ThinFault.{ThinFault}
use Rattle.arti_aql_parse.specs.declared.thin.ThinFault.TheVariants.{NotYet, Memory}

-- a character of a repository key
abbrev pub is_key_byte : ℕ → Bool
is_key_byte b = is_ascii_alphabetic b || (is_ascii_digit b || ((b == 45) || ((b == 95) || (b == 46))))

-- a key of 1 to 64 such characters
pub record IsThinKey (key : List ℕ) : Type 0 where
  pub some : 0 < length key
  pub few : length key ≤ 64
  pub each : (i : ℕ) → i < length key → is_key_byte (slice_index key i) ≡ true

-- the body asks for the items of the repository with this key
pub record AsksFor (body key : List ℕ) : Type 0 where
  pub name : IsThinKey key
  pub whole : body ≡ BEFORE_KEY ++ key ++ AFTER_KEY

-- these bytes are the front of some body of the form
abbrev pub BeginsForm : List ℕ → Type 0
BeginsForm front = (key : List ℕ) × (more : List ℕ) × AsksFor (front ++ more) key

-- how long the longest front of the body is that is the front of a body of the form
pub record LeavesForm (body : List ℕ) (at : ℕ) : Type 0 where
  pub within : at ≤ length body
  pub begins : BeginsForm (take at body)
  pub longest : (n : ℕ) → at < n → n ≤ length body → BeginsForm (take n body) → ⊥
  pub none : (key : List ℕ) → AsksFor body key → ⊥

abbrev pub ThinFaultIs : List ℕ → ThinFault → Type 0
ThinFaultIs body (NotYet at) = LeavesForm body at
ThinFaultIs body Memory = Unit {0}

-- the answer for a key, unless memory runs out
abbrev pub AnswersKey : List ℕ → Result (List ℕ) ThinFault → Type 0
AnswersKey key (Ok found) = found ≡ key
AnswersKey key (Err Memory) = Unit {0}
AnswersKey key (Err (NotYet at)) = ⊥
