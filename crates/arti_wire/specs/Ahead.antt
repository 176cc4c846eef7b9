-- What the bytes that have come decide of a stream.
use Rattle.std.specs.Prelude.{◌≡◌, ℕ, ◌≤◌, ◌⊎◌, List, [], ◌++◌, length, take, IsSome}
use Rattle.arti_model.specs.Requests.{Start, AtEnd, AtCut, AtBad, Head, lines_before_empty}

-- the same start, with more bytes behind what it leaves
abbrev pub with_more : Start → List ℕ → Start
with_more AtEnd more = AtEnd
with_more AtCut more = AtCut
with_more (AtBad why) more = AtBad why
with_more (Head q n rest) more = Head q n (rest ++ more)

-- the bytes ahead decide what they and those that are left begin with
abbrev pub Decides : List ℕ → List ℕ → Type 0
Decides ahead left = (left ≡ []) ⊎ ((32768 ≤ length ahead) ⊎ IsSome (lines_before_empty (take 32768 ahead)))
