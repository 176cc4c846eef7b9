-- What a reader of a head answers.
use Rattle.std.specs.Prelude.{◌≡◌, ℕ, ◌≤◌, List, length, drop, Option, Some, None}
use Rattle.httparse.specs.Grammar.{RequestHead}
use Rattle.arti_model.specs.Requests.{Request, StartsWithHead, HasNoHead, request_of}

-- the head that the bytes begin with and its length, or there is none
abbrev pub ReadsHead : List ℕ → Option (Request × ℕ) → Type 0
ReadsHead bytes None = HasNoHead bytes
ReadsHead bytes (Some found) =
    (h : RequestHead) × StartsWithHead bytes h (drop found.1 bytes) × (found.0 ≡ request_of h) × (found.1 ≤ length bytes)
