-- What the bytes of a journal stand for: bodies behind open gates, up to the first closed gate.
use Rattle.std.specs.Prelude.{◌≡◌, ◌≢◌, ◌⊎◌, ℕ, ◌+◌, ◌≤◌, List, [], ◌∷◌, ◌++◌, length, map, All, Vec}
use Rattle.std.specs.Int.{w32, to_be_bytes}
use Rattle.std.specs.declared.alloc.Global.{Global}
use Rattle.arti_ground.specs.State.{Bytes, State, IsDurable}

-- the bytes of the greatest body
abbrev pub most_body : ℕ
most_body = 67_108_864

-- a body that a record may have
pub record IsBody (body : List ℕ) : Type 0 where
  pub some : 1 ≤ length body
  pub most : length body ≤ most_body

-- the first sixteen bytes of a journal whose making is done: its name, an open gate and seven zeros
unfoldable pub header : List ℕ
header = 65 ∷ 82 ∷ 84 ∷ 73 ∷ 74 ∷ 78 ∷ 76 ∷ 49 ∷ 1 ∷ 0 ∷ 0 ∷ 0 ∷ 0 ∷ 0 ∷ 0 ∷ 0 ∷ []

-- an open gate, a length and a body
abbrev pub opened_record : List ℕ → List ℕ
opened_record body = 1 ∷ to_be_bytes w32 (length body) ++ body

-- records with these bodies behind open gates
abbrev pub records : List (List ℕ) → List ℕ
records [] = []
records (body ∷ bodies) = opened_record body ++ records bodies

-- header and records
abbrev pub opened : List (List ℕ) → List ℕ
opened bodies = header ++ records bodies

-- the bytes are header and records with these bodies, a closed gate, and whatever stands behind it
pub record StandsFor (bodies : List (List ℕ)) (bytes : List ℕ) : Type 0 where
  pub gate : ℕ
  pub rest : List ℕ
  pub shut : gate ≢ 1
  pub fits : All IsBody bodies
  pub whole : bytes ≡ opened bodies ++ gate ∷ rest

-- What a file's bytes stand for: at most 17 bytes for no body, whatever they are, and more of them as a journal does.
abbrev pub IsJournal : List (List ℕ) → List ℕ → Type 0
IsJournal bodies bytes = ((length bytes ≤ 17) × (bodies ≡ [])) ⊎ StandsFor bodies bytes

-- The ground holds a journal with these bodies: its file as read and every image of it stand for them, and the used length is one more
-- than the place of the closed gate.
pub record HoldsJournal (s : State) (file used : ℕ) (bodies : List (List ℕ)) : Type 0 where
  pub reads : StandsFor bodies (s.files file)
  pub images : (c : Bytes) → s.may_leave c → StandsFor bodies (c file)
  pub length_is : used ≡ length (opened bodies) + 1

-- what contracts see of a journal: the number of its file, and the length that is used of it
pub record Place : Type 0 where
  pub file : ℕ
  pub used : ℕ

-- the image without the new body: the other files are those of an image from the start
pub record IsBefore (start : State) (file : ℕ) (bodies : List (List ℕ)) (c : Bytes) : Type 0 where
  pub from : Bytes
  pub was : start.may_leave from
  pub others : (f : ℕ) → f ≢ file → c f ≡ from f
  pub stands : StandsFor bodies (c file)

-- the image with it: the other files are as they were read at the start
pub record IsAfter (start : State) (file : ℕ) (bodies : List (List ℕ)) (body : List ℕ) (c : Bytes) : Type 0 where
  pub others : (f : ℕ) → f ≢ file → c f ≡ start.files f
  pub stands : StandsFor (bodies ++ body ∷ []) (c file)

-- at a moment of an append
pub record Appending (start : State) (file : ℕ) (bodies : List (List ℕ)) (body : List ℕ) (c w : Bytes) : Type 0 where
  pub told : w ≡ start.told
  pub image : IsBefore start file bodies c ⊎ IsAfter start file bodies body c

-- what an append that answered Ok leaves
pub record Appended (start end : State) (file used : ℕ) (bodies : List (List ℕ)) (body : List ℕ) : Type 0 where
  pub journal : HoldsJournal end file (used + 5 + length body) (bodies ++ body ∷ [])
  pub others : (f : ℕ) → f ≢ file → end.files f ≡ start.files f
  pub durable : IsDurable end

-- At a moment of an opening: the other files are as read at its start, and so is the journal's, unless it was too short to stand for a
-- body and is so still.
pub record Opening (start : State) (file : ℕ) (c w : Bytes) : Type 0 where
  pub told : w ≡ start.told
  pub others : (f : ℕ) → f ≢ file → c f ≡ start.files f
  pub here : (c file ≡ start.files file) ⊎ ((length (start.files file) ≤ 17) × (length (c file) ≤ 17))

-- the lists in vectors
abbrev pub bodies_of : List (Vec ℕ Global) → List (List ℕ)
bodies_of bodies = map (λ b. b.items) bodies
