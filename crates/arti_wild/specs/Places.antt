-- From which places of a text the parts that are left can go on to its end.
use Rattle.std.specs.Prelude.{◌≡◌, ℕ, ◌+◌, ◌<◌, ◌≤◌, Bool, true, false, List, [], ◌∷◌, ◌++◌, length, drop, slice_index, slice_index_or, nat_lt, if◌then◌else◌, is_some}
use Rattle.arti_wild.specs.declared.part.Part.{Part}
use Rattle.arti_wild.specs.declared.part.Part.TheVariants.{Char, LastSlash, Any, Star, Open, Close}
use Rattle.arti_wild.specs.declared.capturing.Span.{Span}
use Rattle.arti_wild.specs.Splits.{greatest, Places}

-- the parts can go on from there to the end
abbrev pub goes_on : List Part → List ℕ → ℕ → Bool
goes_on parts text place = is_some (greatest parts (drop place text))

-- the row says so of each place, the text's end too
pub record IsRow (parts : List Part) (text : List ℕ) (row : List Bool) : Type 0 where
  pub places : length row ≡ length text + 1
  pub each : (place : ℕ) → place ≤ length text → slice_index_or row place false ≡ goes_on parts text place

-- they can go on from no place
abbrev pub IsDead : List Part → List ℕ → Type 0
IsDead parts text = (place : ℕ) → place ≤ length text → goes_on parts text place ≡ false

-- the last place from which they can
pub record IsLastPlace (parts : List Part) (text : List ℕ) (place : ℕ) : Type 0 where
  pub within : place ≤ length text
  pub here : goes_on parts text place ≡ true
  pub none_later : (later : ℕ) → place < later → later ≤ length text → goes_on parts text later ≡ false

-- the last places from which what follows each star can go on
unfoldable pub AreStarPlaces : List Part → List ℕ → List ℕ → Type 0
AreStarPlaces [] text places = places ≡ []
AreStarPlaces (Star ∷ parts) text places = (first : ℕ) × (more : List ℕ) × (places ≡ first ∷ more) × IsLastPlace parts text first × AreStarPlaces parts text more
AreStarPlaces (Open ∷ parts) text places = AreStarPlaces parts text places
AreStarPlaces (Close ∷ parts) text places = AreStarPlaces parts text places
AreStarPlaces (Char c ∷ parts) text places = AreStarPlaces parts text places
AreStarPlaces (LastSlash ∷ parts) text places = AreStarPlaces parts text places
AreStarPlaces (Any ∷ parts) text places = AreStarPlaces parts text places

-- the part takes one character
abbrev pub is_single : Part → Bool
is_single (Char c) = true
is_single LastSlash = true
is_single Any = true
is_single Star = false
is_single Open = false
is_single Close = false

-- the part marks a placeholder
abbrev pub is_mark : Part → Bool
is_mark (Char c) = false
is_mark LastSlash = false
is_mark Any = false
is_mark Star = false
is_mark Open = true
is_mark Close = true

-- Where the next part begins, and the last places of the stars to come. No place passes the limit.
abbrev pub one_on : ℕ → ℕ → ℕ
one_on limit at = if nat_lt at limit then at + 1 else at

abbrev pub place_after : ℕ → Part → ℕ → List ℕ → ℕ × List ℕ
place_after limit Star at [] = (at, [])
place_after limit Star at (place ∷ places) = (place, places)
place_after limit Open at places = (at, places)
place_after limit Close at places = (at, places)
place_after limit (Char c) at places = (one_on limit at, places)
place_after limit LastSlash at places = (one_on limit at, places)
place_after limit Any at places = (one_on limit at, places)

-- where the last placeholder was opened
abbrev pub opened_after : Part → ℕ → ℕ → ℕ
opened_after Open opened at = at
opened_after Close opened at = opened
opened_after Star opened at = opened
opened_after (Char c) opened at = opened
opened_after LastSlash opened at = opened
opened_after Any opened at = opened

-- the placeholder that the part ends
abbrev pub closed : Part → ℕ → ℕ → List Places
closed Close opened at = (opened, at) ∷ []
closed Open opened at = []
closed Star opened at = []
closed (Char c) opened at = []
closed LastSlash opened at = []
closed Any opened at = []

-- the placeholders' places, where each star reaches to the next of these places
unfoldable pub walk : (limit opened at : ℕ) → List Part → List ℕ → List Places
walk limit opened at [] places = []
walk limit opened at (part ∷ parts) places =
    closed part opened at ++ walk limit (opened_after part opened at) (place_after limit part at places).0 parts (place_after limit part at places).1

-- a span, by the bytes at which the characters begin
abbrev pub by_offsets : List ℕ → Places → Span
by_offsets offsets p = record { start = slice_index offsets p.0; end = slice_index offsets p.1 }
