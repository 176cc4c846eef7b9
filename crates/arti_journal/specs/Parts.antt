-- Words of the parts of appending, making and reading.
use Rattle.std.specs.Prelude.{◌≡◌, ◌≢◌, ℕ, ◌+◌, ◌-◌, ◌<◌, ◌≤◌, List, [], ◌∷◌, ◌++◌, length, take, drop, All}
use Rattle.std.specs.Int.{w32, to_be_bytes}
use Rattle.arti_ground.specs.State.{Bytes, State}
use Rattle.arti_journal.specs.Journal.{IsBody, most_body, opened_record, records}

-- a length, a body and a closed gate, as one write puts them behind a closed gate
abbrev pub framed : List ℕ → List ℕ
framed body = to_be_bytes w32 (length body) ++ body ++ 0 ∷ []

-- these bytes are records with these bodies, a closed gate, and whatever stands behind it
pub record Follow (bodies : List (List ℕ)) (bytes : List ℕ) : Type 0 where
  pub gate : ℕ
  pub rest : List ℕ
  pub shut : gate ≢ 1
  pub fits : All IsBody bodies
  pub whole : bytes ≡ records bodies ++ gate ∷ rest

-- these bytes begin with a record of this body, and others follow
pub record Begins (body bytes rest : List ℕ) : Type 0 where
  pub fits : IsBody body
  pub more : 1 ≤ length rest
  pub whole : bytes ≡ opened_record body ++ rest

-- the file as read and every image of it are too short to stand for a body
pub record IsUnmade (s : State) (file : ℕ) : Type 0 where
  pub reads : length (s.files file) ≤ 17
  pub images : (c : Bytes) → s.may_leave c → length (c file) ≤ 17

-- at a moment of the making: the file is still too short, and the others are those of an image from the start
pub record Making (start : State) (file : ℕ) (c w : Bytes) : Type 0 where
  pub told : w ≡ start.told
  pub from : Bytes
  pub was : start.may_leave from
  pub others : (f : ℕ) → f ≢ file → c f ≡ from f
  pub short : length (c file) ≤ 17

-- a body may have this length, and so many bytes hold its record and the next gate
abbrev pub HasRoom : ℕ → ℕ → Type 0
HasRoom len rest = (1 ≤ len) × (len ≤ most_body) × (len + 6 ≤ rest)

-- what is held of a file: the place of its first byte, and the bytes from there on
pub record Seen : Type 0 where
  pub file : ℕ
  pub from : ℕ
  pub held : List ℕ

-- the bytes that are held are those of the file
pub record Shows (seen : Seen) (bytes : List ℕ) : Type 0 where
  pub same : seen.held ≡ take (length seen.held) (drop seen.from bytes)

-- the byte at a place is held
abbrev pub Reaches : Seen → ℕ → Type 0
Reaches seen at = (seen.from ≤ at) × (at < seen.from + length seen.held)

-- n bytes of a file at a place were put into a buffer, and none only where there was none or no room
pub record IsPiece (bytes : List ℕ) (at : ℕ) (before after : List ℕ) (n : ℕ) : Type 0 where
  pub front : take n after ≡ take n (drop at bytes)
  pub within : n ≤ length bytes - at
  pub some : n ≡ 0 → at < length bytes → length before ≡ 0
