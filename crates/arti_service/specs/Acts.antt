-- What the answering of a request does.
use Rattle.std.specs.Prelude.{◌≡◌, ◌≢◌, ℕ, ◌<◌, List, ◌++◌, length, Option, IfSome, Contains, Result, Err, OnOk, IfErr}
use Rattle.arti_rows.specs.declared.limits.Limits.{Limits}
use Rattle.arti_ground.specs.State.{State, Passes}
use Rattle.arti_blobs.specs.declared.staging.Staged.{Staged}
use Rattle.arti_blobs.specs.Contents.{content}
use Rattle.arti_model.specs.Replies.{IsReplyStatus}
use Rattle.arti_model.specs.Stock.{Stock, Answer, unchanged, accept}
use Rattle.arti_store.specs.Items.{file_in}
use Rattle.arti_store.specs.Store.{View, contents_at, shows, HoldsStore}
use Rattle.arti_service.specs.declared.answering.Stop.{Stop}
use Rattle.arti_service.specs.declared.answering.Stop.TheVariants as stop
use Rattle.arti_service.specs.declared.act.Act.{Act}
use Rattle.arti_service.specs.declared.act.Act.TheVariants.{Tell, Send, Commit}
use Rattle.arti_service.specs.declared.decision.Body.{Body}
use Rattle.arti_service.specs.declared.decision.Body.TheVariants.{Json, Kept}
use Rattle.arti_service.specs.declared.decision.Reply.{Reply}
use Rattle.arti_service.specs.declared.decision.Decision.{Decision}
use Rattle.arti_service.specs.declared.decision.Decision.TheVariants.{Refused, Tells, Makes}
use Rattle.arti_service.specs.Asks as asks
use Rattle.arti_service.specs.Cuts.{StoppedIn}
use Rattle.arti_service.specs.Decisions.{MayMake}
use Rattle.arti_service.specs.Parts.{rest_of}
use Rattle.arti_service.specs.Moments.{AtMoment, During}

-- ---- what is left to do

-- the answer that it is, where the contents file has these bytes
abbrev pub done_by : List ℕ → Limits → Stock → Act → Answer
done_by bytes limits s (Tell head body) = unchanged s (head.items ++ body.items)
done_by bytes limits s (Send head file buffer) = unchanged s (head.items ++ content bytes file)
done_by bytes limits s (Commit change head file buffer) = accept limits s (file_in bytes) change (head.items ++ rest_of bytes file)

abbrev pub done_at : State → Limits → Stock → Act → Answer
done_at s = done_by (contents_at s)

-- it may be done over a store, with what was staged
abbrev pub MayCarryOut : View → Option Staged → Act → Type 0
MayCarryOut v staged (Tell head body) = Unit {0}
MayCarryOut v staged (Send head file buffer) = Contains v.contents.kept file × (0 < length buffer.items)
MayCarryOut v staged (Commit change head file buffer) =
    MayMake v staged change × IfSome file (Contains v.contents.kept) × IfSome file (λ f. 0 < length buffer.items)

-- nothing is committed, and no memory taken
abbrev pub TellsOnly : Act → Type 0
TellsOnly (Tell head body) = Unit {0}
TellsOnly (Send head file buffer) = Unit {0}
TellsOnly (Commit change head file buffer) = ⊥

-- ---- what a decision has to have for it

abbrev pub HasStatus : Decision → Type 0
HasStatus (Refused why) = Unit {0}
HasStatus (Tells reply) = IsReplyStatus reply.status
HasStatus (Makes change reply) = IsReplyStatus reply.status

-- it changes nothing
abbrev pub OnlyReads : Decision → Type 0
OnlyReads (Refused why) = Unit {0}
OnlyReads (Tells reply) = Unit {0}
OnlyReads (Makes change reply) = ⊥

-- its content, if it has one, stands whole in those bytes
abbrev pub IsWholeBody : List ℕ → Body → Type 0
IsWholeBody bytes (Json text) = Unit {0}
IsWholeBody bytes (Kept file) = length (content bytes file) ≡ file.len

abbrev pub HasWhole : List ℕ → Reply → Type 0
HasWhole bytes reply = IsWholeBody bytes reply.body

abbrev pub IsWholeIn : List ℕ → Decision → Type 0
IsWholeIn bytes (Refused why) = Unit {0}
IsWholeIn bytes (Tells reply) = HasWhole bytes reply
IsWholeIn bytes (Makes change reply) = HasWhole bytes reply

-- ---- what it does

-- A reply of these was told whole, or some first bytes of it were; the store is as behind where telling alone failed, too. At each moment the image stands for the store
-- before or behind, and for the one behind as soon as a byte was told.
pub record Acts (limits : Limits) (line : ℕ) (IsOne : List ℕ → Type 0) (behind : Stock) (result : Result (Unit {0}) Stop) (s s' : State) (v v' : View) : Type 0 where
  pub told : OnOk result (asks.Tells IsOne (s.told line) (s'.told line))
  pub stock : result ≢ Err stop.Disk → result ≢ Err stop.Memory → shows s' v' ≡ behind
  pub holds : result ≢ Err stop.Disk → result ≢ Err stop.Memory → HoldsStore s' v'
  pub stops : IfErr result (λ stop. StoppedIn stop IsOne (s.told line) (s'.told line))
  pub moments : Passes s s' (AtMoment limits line s.told (During IsOne (shows s v).holding behind.holding))

-- the one reply of an answer
abbrev pub ActsFor : Limits → ℕ → Answer → Result (Unit {0}) Stop → State → State → View → View → Type 0
ActsFor limits line answer result s s' v v' = Acts limits line (λ reply. reply ≡ answer.reply) answer.stock result s s' v v'
