-- Where a fault, or want of memory, leaves a conversation.
use Rattle.std.specs.Prelude.{◌≡◌, ℕ, ◌-◌, ◌<◌, ℤ, false, List, [], ◌++◌, length, take, drop}
use Rattle.arti_rows.specs.declared.limits.Limits.{Limits}
use Rattle.arti_model.specs.declared.Why.{Why}
use Rattle.arti_model.specs.Requests.{Request, Whole, Begins, AtBad, Head}
use Rattle.arti_model.specs.Stock.{Stock}
use Rattle.arti_model.specs.Run.{first_of, IsReply, error_reply}
use Rattle.arti_model.specs.Step.{step}
use Rattle.arti_service.specs.declared.answering.Stop.{Stop}
use Rattle.arti_service.specs.declared.answering.Stop.TheVariants as stop
use Rattle.arti_service.specs.declared.conversation.Ending.{Ending}
use Rattle.arti_service.specs.declared.conversation.Ending.TheVariants.{End, Cut, Bad, TooMany, Disk, Tell, Source, Memory}

-- where a conversation stands: how many more requests it answers, the moments to come, what the store has, and the input that is left
pub record Standing : Type 0 where
  pub most : ℕ
  pub moments : List ℤ
  pub stock : Stock
  pub input : List ℕ

-- the input begins with a whole request, which was answered with this reply, and the stream goes on
pub record AnswersFirst (limits : Limits) (a : Standing) (reply : List ℕ) (b : Standing) : Type 0 where
  pub request : Whole
  pub some : 0 < a.most
  pub begins : Begins limits.content a.input (Head request.head (length request.body) (request.body ++ b.input))
  pub goes_on : request.head.last ≡ false
  pub replies : IsReply limits a.stock request (first_of a.moments) reply
  pub most : b.most ≡ a.most - 1
  pub moments : b.moments ≡ drop 1 a.moments
  pub stock : b.stock ≡ (step limits a.stock request (first_of a.moments)).stock

-- the input begins with whole requests, which were answered one after the other with these bytes
pub data AnswersSome (limits : Limits) : Standing → List ℕ → Standing → Type 0 where
  none : {a : Standing} → AnswersSome limits a [] a
  more : {a b c : Standing} {bytes reply : List ℕ} → AnswersSome limits a bytes b → AnswersFirst limits b reply c → AnswersSome limits a (bytes ++ reply) c

-- what would be told next, and what the store has behind it: the reply to a whole request, or to bytes that are none
pub data NextReply (limits : Limits) (a : Standing) : List ℕ → Stock → Type 0 where
  to_request : (q : Whole) (rest reply : List ℕ) → 0 < a.most → Begins limits.content a.input (Head q.head (length q.body) (q.body ++ rest))
      → IsReply limits a.stock q (first_of a.moments) reply → NextReply limits a reply (step limits a.stock q (first_of a.moments)).stock
  to_bad : (why : Why) → 0 < a.most → Begins limits.content a.input (AtBad why) → NextReply limits a (error_reply why) a.stock

-- the first bytes of a reply were told
abbrev pub TellsFront : List ℕ → List ℕ → List ℕ → Type 0
TellsFront reply told told' = (n : ℕ) × (told' ≡ told ++ take n reply)

-- the first bytes of what would be told next were told
abbrev pub TellsNext : Limits → Standing → List ℕ → List ℕ → Stock → Type 0
TellsNext limits a told told' after = (reply : List ℕ) × NextReply limits a reply after × TellsFront reply told told'

-- How a fault or want of memory leaves what was told, and what the store has then: behind the request whose reply was being told, where
-- telling it failed, and as it was, where the source failed.
abbrev pub StopsSo : Ending → Limits → Standing → List ℕ → List ℕ → Stock → Type 0
StopsSo End limits a told told' after = Unit {0}
StopsSo Cut limits a told told' after = Unit {0}
StopsSo (Bad why) limits a told told' after = Unit {0}
StopsSo TooMany limits a told told' after = Unit {0}
StopsSo Disk limits a told told' after = (s : Stock) × TellsNext limits a told told' s
StopsSo Tell limits a told told' after = TellsNext limits a told told' after
StopsSo Source limits a told told' after = (told' ≡ told) × (after ≡ a.stock)
StopsSo Memory limits a told told' after = told' ≡ told

-- the same behind some requests that were answered whole
abbrev pub Stops : Ending → Limits → Standing → List ℕ → List ℕ → Stock → Type 0
Stops ending limits a told told' after =
    (b : Standing) × (bytes : List ℕ) × AnswersSome limits a bytes b × StopsSo ending limits b (told ++ bytes) told' after

-- how a fault or want of memory leaves what was told, where the reply is one of these
abbrev pub StoppedIn : Stop → (List ℕ → Type 0) → List ℕ → List ℕ → Type 0
StoppedIn stop.Disk IsOne told told' = (reply : List ℕ) × IsOne reply × TellsFront reply told told'
StoppedIn stop.Tell IsOne told told' = (reply : List ℕ) × IsOne reply × TellsFront reply told told'
StoppedIn stop.Memory IsOne told told' = told' ≡ told

-- the request of a head was read whole, n bytes of the input being its body, and some of its reply was told, behind it in the store
pub record TellsSomeOfOne (limits : Limits) (moments : List ℤ) (s : Stock) (head : Request) (n : ℕ) (input told told' : List ℕ) (after : Stock) : Type 0 where
  pub body : List ℕ
  pub rest : List ℕ
  pub long : length body ≡ n
  pub input_is : input ≡ body ++ rest
  pub stopped : StoppedIn stop.Tell (IsReply limits s (record { head = head; body = body }) (first_of moments)) told told'
  pub leaves : after ≡ (step limits s (record { head = head; body = body }) (first_of moments)).stock

-- a fault or want of memory while that request was read and answered
abbrev pub StopsInOne : Ending → Limits → List ℤ → Stock → Request → ℕ → List ℕ → List ℕ → List ℕ → Stock → Type 0
StopsInOne End limits moments s head n input told told' after = Unit {0}
StopsInOne Cut limits moments s head n input told told' after = Unit {0}
StopsInOne (Bad why) limits moments s head n input told told' after = Unit {0}
StopsInOne TooMany limits moments s head n input told told' after = Unit {0}
StopsInOne Disk limits moments s head n input told told' after = (x : Stock) × TellsSomeOfOne limits moments s head n input told told' x
StopsInOne Tell limits moments s head n input told told' after = TellsSomeOfOne limits moments s head n input told told' after
StopsInOne Source limits moments s head n input told told' after = (told' ≡ told) × (after ≡ s)
StopsInOne Memory limits moments s head n input told told' after = told' ≡ told

-- a fault or want of memory while that reply was told
abbrev pub StopsTelling : Stop → List ℕ → List ℕ → List ℕ → Type 0
StopsTelling stop.Disk reply told told' = ⊥
StopsTelling stop.Tell reply told told' = TellsFront reply told told'
StopsTelling stop.Memory reply told told' = told' ≡ told

-- the same as an ending
abbrev pub StopsBad : Ending → Why → List ℕ → List ℕ → Type 0
StopsBad End why told told' = Unit {0}
StopsBad Cut why told told' = Unit {0}
StopsBad (Bad w) why told told' = Unit {0}
StopsBad TooMany why told told' = Unit {0}
StopsBad Disk why told told' = ⊥
StopsBad Tell why told told' = TellsFront (error_reply why) told told'
StopsBad Source why told told' = ⊥
StopsBad Memory why told told' = told' ≡ told

-- the ending of a conversation whose answer stopped so
abbrev pub EndsFor : Stop → Ending → Type 0
EndsFor stop.Disk ending = ending ≡ Disk
EndsFor stop.Tell ending = ending ≡ Tell
EndsFor stop.Memory ending = ending ≡ Memory
