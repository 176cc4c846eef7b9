-- What the head of a request asks, in the words of the model.
use Rattle.std.specs.Prelude.{◌≡◌, ◌⊎◌, IsTrue, List, ℕ, ◌++◌, Result, Ok, Err}
use Rattle.arti_rows.specs.declared.refusal.Refusal.{Refusal}
use Rattle.arti_model.specs.Requests.{Request}
use Rattle.arti_model.specs.Store.{local_key}
use Rattle.arti_model.specs.Stock.{Answer}
use Rattle.arti_model.specs.Decide as model
use Rattle.arti_model.specs.Run.{is_reading, memory_reply}
use Rattle.arti_service.specs.declared.ask.Asked.{Asked}
use Rattle.arti_service.specs.declared.ask.Asked.TheVariants.{Refused, Deploy, DeployFound, Fetch, Query}

abbrev pub asked_is : Asked → Result model.Ask Refusal
asked_is (Refused why) = Err why
asked_is (Deploy key wanted) = Ok (model.Deploy key wanted)
asked_is (DeployFound key wanted) = Ok (model.DeployFound key wanted)
asked_is (Fetch key) = Ok (model.Fetch key)
asked_is Query = Ok model.Query

-- the item that it names, if it names one, is the local repository's
abbrev pub IsLocal : Asked → Type 0
IsLocal (Deploy key wanted) = key.repo ≡ local_key
IsLocal (DeployFound key wanted) = key.repo ≡ local_key
IsLocal (Fetch key) = key.repo ≡ local_key
IsLocal asked = Unit {0}

-- it has no body, or its body is passed over
abbrev pub HasNoBody : Asked → Type 0
HasNoBody (Deploy key wanted) = ⊥
HasNoBody Query = ⊥
HasNoBody asked = Unit {0}

-- a query is asked by a request that is known to read alone
abbrev pub IsKnownToRead : Asked → Request → Type 0
IsKnownToRead Query q = IsTrue (is_reading q)
IsKnownToRead asked q = Unit {0}

-- a reply to what is asked: the answer's, or that of a query that found no memory
abbrev pub MayReply : Asked → Answer → List ℕ → Type 0
MayReply Query answer reply = (reply ≡ answer.reply) ⊎ (reply ≡ memory_reply)
MayReply asked answer reply = reply ≡ answer.reply

-- a reply was told
abbrev pub Tells : (List ℕ → Type 0) → List ℕ → List ℕ → Type 0
Tells IsOne told told' = (reply : List ℕ) × IsOne reply × (told' ≡ told ++ reply)
