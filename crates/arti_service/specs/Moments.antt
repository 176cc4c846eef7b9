-- What a crash may leave while requests are answered.
use Rattle.std.specs.Prelude.{◌≡◌, ℕ, ℤ, List, [], ◌++◌, length, take}
use Rattle.arti_rows.specs.declared.limits.Limits.{Limits}
use Rattle.arti_ground.specs.State.{Bytes, State}
use Rattle.arti_model.specs.Requests.{Request}
use Rattle.arti_model.specs.Apply.{Holding}
use Rattle.arti_model.specs.Stock.{Stock}
use Rattle.arti_model.specs.Step.{step}
use Rattle.arti_model.specs.Run.{first_of, IsReply}
use Rattle.arti_store.specs.Store.{Stands}

-- at a moment of calls that tell on a line: what was told there since their start, and what the image stands for, have P
pub record AtMoment (limits : Limits) (line : ℕ) (start : Bytes) (P : List ℕ → Holding → Type 0) (c w : Bytes) : Type 0 where
  pub told : List ℕ
  pub told_is : w line ≡ start line ++ told
  pub holding : Holding
  pub used : ℕ
  pub stands : Stands limits c holding used
  pub fits : P told holding

-- at a moment of telling: the image is one from the start, and some first bytes were told on the line
pub record Telling (start : State) (line : ℕ) (bytes : List ℕ) (c w : Bytes) : Type 0 where
  pub was : start.may_leave c
  pub n : ℕ
  pub told : w line ≡ start.told line ++ take n bytes

-- While a reply is made and told: nothing of it was told, and the store is as before; or it is as behind, and some first bytes were told.
pub data During (IsOne : List ℕ → Type 0) (before behind : Holding) : List ℕ → Holding → Type 0 where
  waits : During IsOne before behind [] before
  tells : {reply : List ℕ} (n : ℕ) → IsOne reply → During IsOne before behind (take n reply) behind

-- the request of a head was read whole, n bytes of the input being its body, and is answered
pub record DuringOne (limits : Limits) (moments : List ℤ) (s : Stock) (head : Request) (n : ℕ) (input told : List ℕ) (h : Holding) : Type 0 where
  pub body : List ℕ
  pub rest : List ℕ
  pub long : length body ≡ n
  pub input_is : input ≡ body ++ rest
  pub during : During (IsReply limits s (record { head = head; body = body }) (first_of moments)) s.holding
      (step limits s (record { head = head; body = body }) (first_of moments)).stock.holding told h
