-- Lists of ids.
use Rattle.std.specs.Prelude.{◌≡◌, ◌≢◌, ℕ, ◌+◌, ◌<◌, ◌≤◌, ◌==◌, nat_lt, not, if◌then◌else◌, List, [], ◌∷◌, length, slice_index}
use Rattle.std.specs.List.{filter}

-- the ids ascend, each once, from n on
abbrev pub AscendFrom : ℕ → List ℕ → Type 0
AscendFrom n [] = Unit {0}
AscendFrom n (id ∷ ids) = (n ≤ id) × AscendFrom (id + 1) ids

-- an id is not in the list
abbrev pub Lacks : List ℕ → ℕ → Type 0
Lacks ids id = (k : ℕ) → k < length ids → slice_index ids k ≢ id

-- with an id before the first greater one
abbrev pub with_id : ℕ → List ℕ → List ℕ
with_id id [] = id ∷ []
with_id id (x ∷ ids) = if nat_lt id x then id ∷ x ∷ ids else x ∷ with_id id ids

-- without an id
abbrev pub without_id : ℕ → List ℕ → List ℕ
without_id id ids = filter (λ x. not (x == id)) ids

-- all before a place are less than an id, and all from there on are greater
pub record IsGap (ids : List ℕ) (id i : ℕ) : Type 0 where
  pub within : i ≤ length ids
  pub before : (k : ℕ) → k < i → slice_index ids k < id
  pub behind : (k : ℕ) → i ≤ k → k < length ids → id < slice_index ids k

-- The greatest number below the last id that is no id, or the next behind it where the ids leave none out: those behind it follow
-- one another, and where none is behind it, all before it are there.
pub record IsNext (ids : List ℕ) (id : ℕ) : Type 0 where
  pub place : ℕ
  pub gap : IsGap ids id place
  pub run : (k : ℕ) → place ≤ k → k < length ids → slice_index ids k + place ≡ id + 1 + k
  pub dense : place ≡ length ids → id ≡ length ids

-- each id is the next one where those before it are taken
abbrev pub TakesNext : List ℕ → List ℕ → Type 0
TakesNext taken [] = Unit {0}
TakesNext taken (id ∷ ids) = IsNext taken id × TakesNext (with_id id taken) ids
