-- Lines in a list of bytes.
use Rattle.std.specs.Prelude.{◌≡◌, ◌≢◌, ℕ, List, [], ◌∷◌, ◌++◌, ◌⊎◌, All, true, false, is_some}
use Rattle.arti_model.specs.Requests.{is_line_byte, starts_line_end, lines_before_empty}
use Rattle.arti_wire.specs.declared.lines.FrontByte.{FrontByte}
use Rattle.arti_wire.specs.declared.lines.FrontByte.TheVariants.{Nothing, LineByte, Byte}
use Rattle.arti_wire.specs.declared.lines.Follower.{Follower}
use Rattle.arti_wire.specs.declared.lines.Follower.TheVariants.{EmptyLine, Open, Other}

-- the bytes are empty, or begin with CR or LF, or with another byte
abbrev pub StartsSo : List ℕ → FrontByte → Type 0
StartsSo bytes Nothing = bytes ≡ []
StartsSo bytes LineByte = (b : ℕ) × (rest : List ℕ) × (bytes ≡ b ∷ rest) × (is_line_byte b ≡ true)
StartsSo bytes Byte = (b : ℕ) × (rest : List ℕ) × (bytes ≡ b ∷ rest) × (is_line_byte b ≡ false)

-- rest stands behind the first LF of the bytes
pub record IsBehindLine (bytes rest : List ℕ) : Type 0 where
  pub front : List ℕ
  pub split : bytes ≡ front ++ 10 ∷ rest
  pub plain : All (λ b. b ≢ 10) front

-- what bytes behind an LF are, whatever follows them
abbrev pub Follows : List ℕ → Follower → Type 0
Follows bytes EmptyLine = starts_line_end bytes ≡ true
Follows bytes Open = (bytes ≡ []) ⊎ (bytes ≡ 13 ∷ [])
Follows bytes Other = (more : List ℕ) → starts_line_end (bytes ++ more) ≡ false

-- whatever follows, an empty line stands in both or in neither
abbrev pub SameSearch : List ℕ → List ℕ → Type 0
SameSearch xs ys = (more : List ℕ) → is_some (lines_before_empty (xs ++ more)) ≡ is_some (lines_before_empty (ys ++ more))
