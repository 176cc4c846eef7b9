-- A whole stream of requests: the replies one after the other, and the store at the end.
use Rattle.std.specs.Prelude.{◌≡◌, ◌⊎◌, ℕ, zero, suc, ◌+◌, ◌-◌, ◌<◌, ◌≤◌, ℤ, pos, ◌+ℤ◌, Bool, IsTrue, MatchBool, List, [], ◌∷◌, ◌++◌, length, take, drop, codes, Option, Some, None}
use Rattle.arti_rows.specs.declared.edits.Change.{Change}
use Rattle.arti_rows.specs.declared.limits.Limits.{Limits}
use Rattle.arti_model.specs.declared.Why.{Why}
use Rattle.arti_model.specs.declared.Why.TheVariants.{BadHead, HeadTooLarge, BadLength, UnknownCoding, BodyTooLarge}
use Rattle.arti_model.specs.Requests.{Request, Whole, Ending, End, Cut, Bad, TooMany, Begins, Head}
use Rattle.arti_model.specs.Bodies.{refused}
use Rattle.arti_model.specs.Apply.{Holding}
use Rattle.arti_model.specs.Stock.{Stock}
use Rattle.arti_model.specs.Heads.{is_query}
use Rattle.arti_model.specs.Step.{step}

-- the first moment, or moment 0 where none is left
abbrev pub first_of : List ℤ → ℤ
first_of [] = pos 0
first_of (m ∷ moments) = m

-- so many moments, one millisecond apart
abbrev pub moments_from : ℤ → ℕ → List ℤ
moments_from start zero = []
moments_from start (suc n) = start ∷ moments_from (start +ℤ pos 1) n

-- the store after all requests, each at the next moment
abbrev pub stock_after : Limits → List ℤ → Stock → List Whole → Stock
stock_after limits moments s [] = s
stock_after limits moments s (q ∷ qs) =
    stock_after limits (drop 1 moments) (step limits s q (first_of moments)).stock qs

-- a request that is known to read alone: a query
abbrev pub is_reading : Request → Bool
is_reading q = is_query q

-- the reply where a reading request found no memory
abbrev pub memory_reply : List ℕ
memory_reply = refused 500 (codes "Memory")

-- a reply to a request: that of its step, or of a reading request that found no memory
abbrev pub IsReply : Limits → Stock → Whole → ℤ → List ℕ → Type 0
IsReply limits s q moment reply = (reply ≡ (step limits s q moment).reply) ⊎ (IsTrue (is_reading q.head) × (reply ≡ memory_reply))

-- the reply to bytes that are no request
abbrev pub error_reply : Why → List ℕ
error_reply BadHead = refused 400 (codes "BadHead")
error_reply HeadTooLarge = refused 400 (codes "HeadTooLarge")
error_reply BadLength = refused 400 (codes "BadLength")
error_reply UnknownCoding = refused 501 (codes "UnknownCoding")
error_reply BodyTooLarge = refused 413 (codes "BodyTooLarge")

-- what is told at the end of the stream
abbrev pub last_reply : Ending → List ℕ
last_reply End = []
last_reply Cut = []
last_reply (Bad why) = error_reply why
last_reply TooMany = []

-- the bytes are a reply to each request in turn, and what is told at the end
abbrev pub AnswersAll : Limits → List ℤ → Stock → List Whole → Ending → List ℕ → Type 0
AnswersAll limits moments s [] ending bytes = bytes ≡ last_reply ending
AnswersAll limits moments s (q ∷ qs) ending bytes =
    (reply : List ℕ) × (rest : List ℕ) × (bytes ≡ reply ++ rest) × IsReply limits s q (first_of moments) reply
    × AnswersAll limits (drop 1 moments) (step limits s q (first_of moments)).stock qs ending rest

-- the replies of the steps one after the other, and what is told at the end
abbrev pub run_bytes : Limits → List ℤ → Stock → List Whole → Ending → List ℕ
run_bytes limits moments s [] ending = last_reply ending
run_bytes limits moments s (q ∷ qs) ending =
    let answer = step limits s q (first_of moments) in
    answer.reply ++ run_bytes limits (drop 1 moments) answer.stock qs ending

-- ---- what a stop leaves

-- the input begins with these requests, of which the last alone may say that it is the last: a content has at most `content` bytes, and `most`
-- requests are answered
abbrev pub BeginsWith : ℕ → ℕ → List ℕ → List Whole → Type 0
BeginsWith content most input [] = Unit {0}
BeginsWith content most input (q ∷ qs) =
    (after : List ℕ)
    × (0 < most)
    × Begins content input (Head q.head (length q.body) (q.body ++ after))
    × MatchBool q.head.last (qs ≡ []) (BeginsWith content (most - 1) after qs)

-- one where a change was accepted
abbrev pub count_of : Option Change → ℕ
count_of None = 0
count_of (Some change) = 1

-- so many changes are accepted by that request
abbrev pub accepted_by : Limits → List ℤ → Stock → Whole → ℕ
accepted_by limits moments s q = count_of (step limits s q (first_of moments)).change

-- what the store holds after the first so many changes that these requests have accepted
pub data HoldsAfter (limits : Limits) : List ℤ → Stock → List Whole → ℕ → Holding → Type 0 where
  at_first : {moments : List ℤ} {s : Stock} {qs : List Whole} → HoldsAfter limits moments s qs 0 s.holding
  behind : {moments : List ℤ} {s : Stock} {q : Whole} {qs : List Whole} {n : ℕ} {h : Holding}
      → HoldsAfter limits (drop 1 moments) (step limits s q (first_of moments)).stock qs n h
      → HoldsAfter limits moments s (q ∷ qs) (accepted_by limits moments s q + n) h

-- The bytes are the first of what is told for these requests, and so many accepted changes have a reply with a byte among them. Behind all of the
-- requests, some may be the first of the reply to bytes that are none.
pub data Acknowledges (limits : Limits) : List ℤ → Stock → List Whole → List ℕ → ℕ → Type 0 where
  nothing : {moments : List ℤ} {s : Stock} {qs : List Whole} → Acknowledges limits moments s qs [] 0
  some : {moments : List ℤ} {s : Stock} {q : Whole} {qs : List Whole} {reply : List ℕ} {n : ℕ}
      → IsReply limits s q (first_of moments) reply → 0 < n
      → Acknowledges limits moments s (q ∷ qs) (take n reply) (accepted_by limits moments s q)
  whole : {moments : List ℤ} {s : Stock} {q : Whole} {qs : List Whole} {reply bytes : List ℕ} {n : ℕ}
      → IsReply limits s q (first_of moments) reply
      → Acknowledges limits (drop 1 moments) (step limits s q (first_of moments)).stock qs bytes n
      → Acknowledges limits moments s (q ∷ qs) (reply ++ bytes) (accepted_by limits moments s q + n)
  bad : {moments : List ℤ} {s : Stock} (why : Why) (n : ℕ) → Acknowledges limits moments s [] (take n (error_reply why)) 0

-- What a stop leaves, where these bytes were told and the store was as it holds here: it is the store after a prefix of the accepted changes
-- that holds each one whose reply has a byte among those that were told, and at most one more.
pub record Recovers (limits : Limits) (most : ℕ) (moments : List ℤ) (s : Stock) (input told : List ℕ) (h : Holding) : Type 0 where
  pub requests : List Whole
  pub begins : BeginsWith limits.content most input requests
  pub acknowledged : ℕ
  pub tells : Acknowledges limits moments s requests told acknowledged
  pub accepted : ℕ
  pub holds : HoldsAfter limits moments s requests accepted h
  pub all : acknowledged ≤ accepted
  pub one_more : accepted ≤ acknowledged + 1
