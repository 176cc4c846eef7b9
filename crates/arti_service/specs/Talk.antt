-- How a conversation on one stream ends, and what was told in it.
use Rattle.std.specs.Prelude.{◌≡◌, ℕ, ◌-◌, ◌<◌, ℤ, List, ◌++◌, length, drop}
use Rattle.arti_rows.specs.declared.limits.Limits.{Limits}
use Rattle.arti_model.specs.Requests as model
use Rattle.arti_model.specs.Requests.{Whole, RequestBytes}
use Rattle.arti_model.specs.Stock.{Stock}
use Rattle.arti_model.specs.Run.{first_of, IsReply, AnswersAll, stock_after}
use Rattle.arti_model.specs.Step.{step}
use Rattle.arti_service.specs.Cuts.{AnswersFirst}
use Rattle.arti_service.specs.declared.conversation.Ending.{Ending}
use Rattle.arti_service.specs.declared.conversation.Ending.TheVariants.{End, Cut, Bad, TooMany, Disk, Tell, Source, Memory}

-- the requests that the bytes are, the replies to them and the store after them
pub record IsAnswered (limits : Limits) (most : ℕ) (moments : List ℤ) (s : Stock) (input : List ℕ) (ending : model.Ending) (bytes : List ℕ) (after : Stock) : Type 0 where
  pub requests : List Whole
  pub reads : RequestBytes limits.content most input requests ending
  pub answers : AnswersAll limits moments s requests ending bytes
  pub leaves : after ≡ stock_after limits moments s requests

-- a fact of the ending of the stream, where no fault ended it
abbrev pub AtStreamEnd : Ending → (model.Ending → Type 0) → Type 0
AtStreamEnd End P = P model.End
AtStreamEnd Cut P = P model.Cut
AtStreamEnd (Bad why) P = P (model.Bad why)
AtStreamEnd TooMany P = P model.TooMany
AtStreamEnd Disk P = Unit {0}
AtStreamEnd Tell P = Unit {0}
AtStreamEnd Source P = Unit {0}
AtStreamEnd Memory P = Unit {0}

-- the stream was answered to its end
abbrev pub Answers : Limits → ℕ → List ℤ → Stock → List ℕ → List ℕ → List ℕ → Stock → model.Ending → Type 0
Answers limits most moments s input told told' after ending =
    (bytes : List ℕ) × IsAnswered limits most moments s input ending bytes after × (told' ≡ told ++ bytes)

-- one request was read and answered, and the stream goes on
pub record TakesTurn (limits : Limits) (most : ℕ) (moments moments' : List ℤ) (s s' : Stock) (input input' : List ℕ) (told told' : List ℕ) : Type 0 where
  pub goes_on : (ending : model.Ending) (bytes : List ℕ) (after : Stock) → IsAnswered limits (most - 1) moments' s' input' ending bytes after
      → (all : List ℕ) × IsAnswered limits most moments s input ending all after × (told' ++ bytes ≡ told ++ all)
  pub some : 0 < most
  pub one : (reply : List ℕ) × AnswersFirst limits (record { most = most; moments = moments; stock = s; input = input }) reply (record { most = most - 1; moments = moments'; stock = s'; input = input' })
      × (told' ≡ told ++ reply)

-- the request of a head was read whole and answered: n bytes of the input are its body
pub record AnswersOne (limits : Limits) (moments moments' : List ℤ) (s s' : Stock) (head : model.Request) (n : ℕ) (input input' : List ℕ) (told told' : List ℕ) : Type 0 where
  pub body : List ℕ
  pub long : length body ≡ n
  pub input_is : input ≡ body ++ input'
  pub reply : List ℕ
  pub replies : IsReply limits s (record { head = head; body = body }) (first_of moments) reply
  pub told_is : told' ≡ told ++ reply
  pub store_is : s' ≡ (step limits s (record { head = head; body = body }) (first_of moments)).stock
  pub clock_is : moments' ≡ drop 1 moments

-- the body was cut, and nothing was answered
pub record CutsShort (n : ℕ) (input : List ℕ) (s s' : Stock) (told told' : List ℕ) : Type 0 where
  pub short : length input < n
  pub same_store : s' ≡ s
  pub same_told : told' ≡ told
