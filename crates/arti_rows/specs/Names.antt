-- The rules of repository keys and of items' paths, by their bytes (of this project, after the names that JFrog's manuals allow).
use Rattle.std.specs.Prelude.{◌≡◌, ℕ, Bool, not, ◌&&◌, ◌||◌, ◌==◌, nat_lt, nat_le, nat_eq, if◌then◌else◌, List, [], ◌∷◌, length, codes, Option, Some, None}
use Rattle.std.specs.Option.{option_or}
use Rattle.std.specs.Char.{is_ascii_alphanumeric}
use Rattle.std.specs.List.{list_all, list_any, slice_split}
use Rattle.std.specs.Cmp.Lexicographic.{pointwise}
use Rattle.arti_rows.specs.declared.fault.KeyFault.{KeyFault}
use Rattle.arti_rows.specs.declared.fault.KeyFault.TheVariants.{BadName, TooLong}
use Rattle.arti_rows.specs.Key.{Key, whole_of, key_of}

-- the bytes are among these texts
abbrev pub is_one_of : List (List ℕ) → List ℕ → Bool
is_one_of texts bytes = list_any (λ text. pointwise nat_eq bytes text) texts

-- a byte of a repository's key
abbrev pub is_repo_byte : ℕ → Bool
is_repo_byte b = is_ascii_alphanumeric b || b == 45 || b == 95 || b == 46

-- names that mean something else in a target
abbrev pub reserved_keys : List (List ℕ)
reserved_keys = codes "." ∷ codes ".." ∷ codes "api" ∷ codes "artifactory" ∷ []

-- a repository's key: 1 to 64 such bytes, and no reserved name
abbrev pub is_repo_key : List ℕ → Bool
is_repo_key key =
    nat_lt 0 (length key) && nat_le (length key) 64 && list_all is_repo_byte key
    && not (is_one_of reserved_keys key)

-- / \ : | ? * " < >
abbrev pub barred_marks : List ℕ
barred_marks = 47 ∷ 92 ∷ 58 ∷ 124 ∷ 63 ∷ 42 ∷ 34 ∷ 60 ∷ 62 ∷ []

-- a byte that no segment of a path has: a control character or a barred mark
abbrev pub is_barred_byte : ℕ → Bool
is_barred_byte b = nat_lt b 32 || b == 127 || list_any (λ c. c == b) barred_marks

-- names that no segment has
abbrev pub dot_names : List (List ℕ)
dot_names = codes "." ∷ codes ".." ∷ []

-- a segment with a right name, of whatever length
abbrev pub has_good_name : List ℕ → Bool
has_good_name segment =
    nat_lt 0 (length segment) && not (list_any is_barred_byte segment)
    && not (is_one_of dot_names segment)

-- what is wrong with a segment: its name goes before its length
abbrev pub segment_fault : List ℕ → Option KeyFault
segment_fault segment = if has_good_name segment then (if nat_lt 255 (length segment) then Some TooLong else None) else Some BadName

-- the first fault from the left
abbrev pub first_fault : List (List ℕ) → Option KeyFault
first_fault [] = None
first_fault (segment ∷ segments) = option_or (segment_fault segment) (first_fault segments)

-- the segments of a path
abbrev pub segments_of : List ℕ → List (List ℕ)
segments_of whole = slice_split (λ b. b == 47) whole

-- the path as a whole
abbrev pub length_fault : List ℕ → Option KeyFault
length_fault whole = if nat_lt 1024 (length whole) || nat_lt 64 (length (segments_of whole)) then Some TooLong else None

-- what is wrong with a path and name joined: its segments from the left, then the whole
abbrev pub path_fault : List ℕ → Option KeyFault
path_fault whole = option_or (first_fault (segments_of whole)) (length_fault whole)

-- what is wrong with a repository's key and a path: the key goes first
abbrev pub key_fault : List ℕ → List ℕ → Option KeyFault
key_fault repo whole = if is_repo_key repo then path_fault whole else Some BadName

-- a key that keeps its rules, cut at its last slash
pub record IsKey (k : Key) : Type 0 where
  pub good : key_fault k.repo (whole_of k) ≡ None
  pub cut : key_of k.repo (whole_of k) ≡ k
