-- What contracts see of a list in blocks.
use Rattle.std.specs.Prelude.{ℕ, List}

-- the ids, and how many more can come without memory
pub record Held : Type 0 where
  pub items : List ℕ
  pub room : ℕ
