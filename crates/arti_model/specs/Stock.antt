-- What a store has, and the acceptance of a change: there is room for it, or it is refused.
use Rattle.std.specs.Prelude.{ℕ, ◌+◌, Bool, ◌&&◌, ◌||◌, nat_lt, if◌then◌else◌, List, [], ◌∷◌, length, sum_by, codes, Option, Some, None}
use Rattle.arti_rows.specs.declared.limits.Limits.{Limits}
use Rattle.arti_rows.specs.declared.rows.FileRef.{FileRef}
use Rattle.arti_rows.specs.declared.edits.Change.{Change}
use Rattle.arti_codec.specs.ChangeBytes as codec
use Rattle.arti_model.specs.Store.{File}
use Rattle.arti_model.specs.Apply.{Holding, nothing_kept, same_file, apply}
use Rattle.arti_model.specs.Bodies.{refused}

-- what a store holds, and the length of its journal without the free bytes past its end
pub record Stock : Type 0 where
  pub holding : Holding
  pub used : ℕ

-- a new store's: its journal has a header and a closed gate
abbrev pub new_stock : Stock
new_stock = record { holding = nothing_kept; used = 17 }

-- a store after a request, the reply, and the change that was accepted, if one was
pub record Answer : Type 0 where
  pub stock : Stock
  pub reply : List ℕ
  pub change : Option Change

-- nothing changes
abbrev pub unchanged : Stock → List ℕ → Answer
unchanged s reply = record { stock = s; reply = reply; change = None }

-- ---- where a content is kept

-- its place, where the first of these stands at `at` and each other one behind the one before it; a content that isn't among them goes behind
-- them all
abbrev pub place_from : ℕ → File → List File → ℕ
place_from at file [] = at
place_from at file (other ∷ kept) = if same_file file other then at else place_from (at + length other.content) file kept

-- the reference of a content that is kept, or that is to be kept next
abbrev pub reference_to : File → List File → FileRef
reference_to file kept = record { place = place_from 0 file kept; len = length file.content; digests = file.digests }

-- ---- whether there is room

-- the sum of the lengths of kept contents
abbrev pub kept_length : List File → ℕ
kept_length kept = sum_by (λ (file : File). length file.content) kept

-- a content comes to those that are kept, and their lengths pass the limit with it
abbrev pub fills_blobs : Limits → List File → List File → Bool
fills_blobs limits kept next = nat_lt (length kept) (length next) && nat_lt limits.blobs (kept_length next)

-- the length of a change's bytes
abbrev pub body_length : Change → ℕ
body_length change = length (codec.change.spell change)

-- the bytes of the greatest body of a record
abbrev pub most_body : ℕ
most_body = 67108864

-- a change has too many bytes for a record, or its record passes the limit; before its bytes a record has a gate and their length
abbrev pub fills_journal : Limits → ℕ → Change → Bool
fills_journal limits used change = nat_lt most_body (body_length change) || nat_lt limits.journal (used + 5 + body_length change)

-- A change is accepted, and that is the reply, unless there is no room for it. `file_of` tells the content of a reference.
unfoldable pub accept : Limits → Stock → (FileRef → File) → Change → List ℕ → Answer
accept limits s file_of change reply =
    let after = apply file_of change s.holding in
    if fills_blobs limits s.holding.kept after.kept then unchanged s (refused 507 (codes "Full: blobs")) else (
    if fills_journal limits s.used change then unchanged s (refused 507 (codes "Full: journal")) else record {
      stock = record { holding = after; used = s.used + 5 + body_length change };
      reply = reply;
      change = Some change;
    })
