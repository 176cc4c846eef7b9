-- What a wire is to its callers, and what its calls do to the bytes of a stream.
use Rattle.std.specs.Prelude.{◌≡◌, ◌≢◌, ℕ, ◌-◌, ◌<◌, ◌≤◌, List, [], ◌++◌, take, Result, Ok, Err}
use Rattle.arti_ground.specs.State.{Rose}
use Rattle.arti_model.specs.Requests.{Begins, AtEnd, AtCut, AtBad, Head}
use Rattle.arti_wire.specs.declared.wire.Phase.{Phase}
use Rattle.arti_wire.specs.declared.wire.Phase.TheVariants.{Between, InBody, Over}
use Rattle.arti_wire.specs.declared.wire.NextHead.{NextHead}
use Rattle.arti_wire.specs.declared.wire.NextHead.TheVariants as next
use Rattle.arti_wire.specs.declared.wire.Piece.{Piece}
use Rattle.arti_wire.specs.declared.wire.Piece.TheVariants as piece
use Rattle.arti_wire.specs.declared.wire.WireFault.{WireFault}
use Rattle.arti_wire.specs.declared.wire.WireFault.TheVariants.{Source}

-- inside a body; how many bytes of it are to come
abbrev pub IsInBody : Phase → Type 0
IsInBody Between = ⊥
IsInBody (InBody n) = Unit {0}
IsInBody Over = ⊥

abbrev pub body_left : Phase → ℕ
body_left Between = 0
body_left (InBody n) = n
body_left Over = 0

-- the input begins with what is answered; behind a head, the rest is what stands behind it
abbrev pub AnswersStart : ℕ → List ℕ → NextHead → Phase → List ℕ → Type 0
AnswersStart content input (next.Head request) phase rest = Begins content input (Head request (body_left phase) rest)
AnswersStart content input next.End phase rest = Begins content input AtEnd
AnswersStart content input next.Cut phase rest = Begins content input AtCut
AnswersStart content input (next.Bad why) phase rest = Begins content input (AtBad why)

-- behind a head comes a body, of no more bytes than one content has; else nothing more is read
abbrev pub GoesOn : ℕ → NextHead → Phase → Type 0
GoesOn content (next.Head request) phase = IsInBody phase × (body_left phase ≤ content)
GoesOn content next.End phase = phase ≡ Over
GoesOn content next.Cut phase = phase ≡ Over
GoesOn content (next.Bad why) phase = phase ≡ Over

-- a piece of the body, from before to after, where the buffer has that room
abbrev pub StepsOn : Phase → Piece → Phase → ℕ → Type 0
StepsOn before (piece.Some n) after room = (0 < n) × (n ≤ room) × (n ≤ body_left before) × (after ≡ InBody (body_left before - n))
StepsOn before piece.Last after room = (body_left before ≡ 0) × (after ≡ Between)
StepsOn before piece.Cut after room = (0 < body_left before) × (after ≡ Over)
StepsOn before (piece.Bad why) after room = ⊥

-- the bytes of a piece are the next ones of the input; a cut is where no byte is left
abbrev pub GivesBytes : Piece → List ℕ → List ℕ → List ℕ → Type 0
GivesBytes (piece.Some n) input buf rest = input ≡ take n buf ++ rest
GivesBytes piece.Last input buf rest = input ≡ rest
GivesBytes piece.Cut input buf rest = input ≡ []
GivesBytes (piece.Bad why) input buf rest = ⊥

-- a fault of the source only where its count rose, and no other answer where it changed
pub record HasSourceCause {T : Type 0} (before now : ℕ) (result : Result T WireFault) : Type 0 where
  pub later : before ≤ now
  pub source : result ≡ Err Source → Rose before now
  pub other : result ≢ Err Source → now ≡ before
