-- The blocks of a list.
use Rattle.std.specs.Prelude.{◌≡◌, ℕ, zero, suc, ◌+◌, ◌-◌, ◌*◌, ◌<◌, ◌≤◌, ◌^◌, max, List, [], ◌∷◌, ◌++◌, length, map, take, drop, slice_index, Vec, vec_capacity}
use Rattle.std.specs.List.{All, concat}
use Rattle.std.specs.declared.alloc.Global.{Global}
use Rattle.arti_tree.specs.Held.{Held}

-- the ids of each block
abbrev pub lists : List (Vec ℕ Global) → List (List ℕ)
lists blocks = map (λ b. b.items) blocks

-- how many ids stand before a block
abbrev pub offset : List (List ℕ) → ℕ → ℕ
offset ls i = length (concat (take i ls))

-- by how many ids blocks are more than half full
abbrev pub over : List (List ℕ) → ℕ
over [] = 0
over (l ∷ ls) = (length l - 2048) + over ls

-- how many ids can come with so many blocks set aside: each takes one of them at most, and a block gets full only after half of it was added
abbrev pub room_for : ℕ → ℕ → ℕ
room_for spare above = max spare ((2048 * spare + 2047) - above)

abbrev pub held : List (Vec ℕ Global) → List (Vec ℕ Global) → Held
held blocks spare = record { items = concat (lists blocks); room = room_for (length spare) (over (lists blocks)) }

-- a block has room for 4,096 ids, and no more
abbrev pub IsWide : Vec ℕ Global → Type 0
IsWide b = (length b.items ≤ 4096) × (4096 ≤ vec_capacity b)

abbrev pub IsSpare : Vec ℕ Global → Type 0
IsSpare b = (b.items ≡ []) × (4096 ≤ vec_capacity b)

-- each start is that of its block
pub record HasStarts (starts : List ℕ) (blocks : List (Vec ℕ Global)) : Type 0 where
  pub long : length starts ≡ length blocks
  pub each : (i : ℕ) → i < length blocks → slice_index starts i ≡ offset (lists blocks) i

-- the block at a place as two
abbrev pub halved : List (List ℕ) → ℕ → List (List ℕ)
halved [] i = []
halved (l ∷ ls) zero = take 2048 l ∷ drop 2048 l ∷ ls
halved (l ∷ ls) (suc i) = l ∷ halved ls i

-- a list and the first of others as one
abbrev pub with_first : List ℕ → List (List ℕ) → List (List ℕ)
with_first l [] = l ∷ []
with_first l (m ∷ ls) = (l ++ m) ∷ ls

-- the block at a place and the next as one
abbrev pub joined : List (List ℕ) → ℕ → List (List ℕ)
joined [] i = []
joined (l ∷ ls) zero = with_first l ls
joined (l ∷ ls) (suc i) = l ∷ joined ls i

-- what holds of blocks, with so much room for them and for their starts
pub record IsBlocks (starts : List ℕ) (blocks spare : List (Vec ℕ Global)) (starts_room room : ℕ) : Type 0 where
  pub some : 0 < length blocks
  pub has : HasStarts starts blocks
  pub wide : All IsWide blocks
  pub aside : All IsSpare spare
  pub few : length (concat (lists blocks)) ≤ 2 ^ 32
  pub starts_fit : length starts + length spare ≤ starts_room
  pub fit : length blocks + length spare ≤ room
