-- Formats: which values have bytes, and which bytes a value has.
use Rattle.std.specs.Prelude.{◌≡◌, ℕ, ◌<◌, ◌≤◌, ◌^◌, List, [], ◌∷◌, ◌++◌, length, get_or, Bool, true, false, if◌then◌else◌, Option, Some, None, All}
use Rattle.std.specs.Int.{Width, byte_len, to_be_bytes}
use Rattle.std.specs.List.{flat_map}

pub record Format (A : Type 0) : Type 1 where
  -- which values have bytes
  pub keeps : A → Type 0
  -- the bytes of such a value
  pub spell : A → List ℕ

-- a pair: one behind the other
infixr 20 ◌⨟◌
abbrev pub ◌⨟◌ : {A B : Type 0} → Format A → Format B → Format (A × B)
f ⨟ g = record { keeps = λ p. f.keeps p.0 × g.keeps p.1; spell = λ p. f.spell p.0 ++ g.spell p.1 }

-- a value by its parts
abbrev pub of_parts : {A B : Type 0} → (B → A) → Format A → Format B
of_parts parts f = record { keeps = λ x. f.keeps (parts x); spell = λ x. f.spell (parts x) }

-- those values alone of which P holds
abbrev pub where_holds : {A : Type 0} → (A → Type 0) → Format A → Format A
where_holds P f = record { keeps = λ x. f.keeps x × P x; spell = f.spell }

-- a part of the value goes first, and the format of the whole behind it depends on that part
abbrev pub behind : {A B : Type 0} → Format A → (B → A) → (A → Format B) → Format B
behind first part whole = record { keeps = λ x. first.keeps (part x) × (whole (part x)).keeps x; spell = λ x. first.spell (part x) ++ (whole (part x)).spell x }

-- an unsigned number, its greatest byte first
unfoldable pub number : Width → Format ℕ
number w = record { keeps = λ n. n < 256 ^ byte_len w; spell = to_be_bytes w }

-- one byte
abbrev pub byte : Format ℕ
byte = record { keeps = λ n. n < 256; spell = λ n. n ∷ [] }

-- 1 for true and 0 for false
abbrev pub bit : Bool → ℕ
bit b = if b then 1 else 0

abbrev pub flag : Format Bool
flag = record { keeps = λ b. Unit {0}; spell = λ b. bit b ∷ [] }

abbrev pub IsBytes : List ℕ → Type 0
IsBytes bytes = (i : ℕ) → get_or bytes i 0 < 256

-- so many bytes
abbrev pub run : ℕ → Format (List ℕ)
run n = record { keeps = λ bytes. (length bytes ≡ n) × IsBytes bytes; spell = λ bytes. bytes }

-- so many values
abbrev pub times : {A : Type 0} → Format A → ℕ → Format (List A)
times f n = record { keeps = λ xs. (length xs ≡ n) × All f.keeps xs; spell = flat_map f.spell }

-- a list behind its length
abbrev pub listed : {A : Type 0} → Width → Format A → Format (List A)
listed w f = behind (number w) length (times f)

-- the same, of at most so many
abbrev pub limited : {A : Type 0} → Width → ℕ → Format A → Format (List A)
limited w most f = behind (where_holds (λ n. n ≤ most) (number w)) length (times f)

-- a value where one is said to be there, and otherwise nothing
abbrev pub IsThere : {A : Type 0} → (A → Type 0) → Bool → Option A → Type 0
IsThere P there None = there ≡ false
IsThere P there (Some x) = (there ≡ true) × P x

abbrev pub bytes_of_some : {A : Type 0} → (A → List ℕ) → Option A → List ℕ
bytes_of_some spell None = []
bytes_of_some spell (Some x) = spell x

abbrev pub optional : {A : Type 0} → Bool → Format A → Format (Option A)
optional there f = record { keeps = IsThere f.keeps there; spell = bytes_of_some f.spell }
