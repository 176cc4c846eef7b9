-- Definitions of which none leads back to itself: each has a rank, and its members have lesser ones.
use Rattle.std.specs.Prelude.{ℕ, ◌<◌, List, All}
use Rattle.arti_rows.specs.declared.rows.RepoDef.{RepoDef}
use Rattle.arti_repos.specs.Cycles.{members_of}

abbrev pub IsRank : List RepoDef → (List ℕ → ℕ) → Type 0
IsRank defs rank = (key : List ℕ) → All (λ member. rank member < rank key) (members_of defs key)

abbrev pub IsAcyclic : List RepoDef → Type 0
IsAcyclic defs = (rank : List ℕ → ℕ) × IsRank defs rank
