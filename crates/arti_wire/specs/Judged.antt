-- What the judgement of bytes means.
use Rattle.std.specs.Prelude.{◌≡◌, ℕ, ◌≤◌, List, drop}
use Rattle.arti_model.specs.Requests.{Start, AtEnd, AtCut, AtBad, Head}
use Rattle.arti_wire.specs.declared.judge.Judged.{Judged}
use Rattle.arti_wire.specs.declared.judge.Judged.TheVariants as judged

-- what the bytes begin with
abbrev pub start_of : Judged → List ℕ → Start
start_of judged.End bytes = AtEnd
start_of (judged.Head request len body) bytes = Head request body (drop len bytes)
start_of (judged.Bad why) bytes = AtBad why
start_of judged.Open bytes = AtCut

-- the head lies in the bytes, and its body keeps the limit
abbrev pub LiesWithin : ℕ → ℕ → Judged → Type 0
LiesWithin content size judged.End = Unit {0}
LiesWithin content size (judged.Head request len body) = (len ≤ size) × (body ≤ content)
LiesWithin content size (judged.Bad why) = Unit {0}
LiesWithin content size judged.Open = Unit {0}
