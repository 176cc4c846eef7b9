-- Faults of telling.
use Rattle.std.specs.Prelude.{◌≡◌, ℕ, ◌≤◌}
use Rattle.arti_ground.specs.State.{Rose}

-- What was said is a fault of telling on that line: it is said only where the line's count rose, and where it isn't said no line's count changed.
pub record CountsTold (line : ℕ) (before now : ℕ → ℕ) (said : Type 0) : Type 0 where
  pub later : before line ≤ now line
  pub rose : said → Rose (before line) (now line)
  pub same : (said → ⊥) → now ≡ before
