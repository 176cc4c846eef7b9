-- How a run answers its input.
use Rattle.std.specs.Prelude.{◌≡◌, ◌⊎◌, ℕ, pos, List, ◌++◌}
use Rattle.arti_rows.specs.declared.limits.Limits.{Limits}
use Rattle.arti_ground.specs.State.{Bytes}
use Rattle.arti_model.specs.Requests as model
use Rattle.arti_model.specs.Requests.{Whole, RequestBytes}
use Rattle.arti_model.specs.declared.Why.{Why}
use Rattle.arti_model.specs.Stock.{Stock}
use Rattle.arti_store.specs.Store.{Stands}
use Rattle.arti_service.specs.Cuts.{Standing, Stops}
use Rattle.arti_service.specs.Moments.{AtMoment}
use Rattle.arti_model.specs.Run.{AnswersAll, stock_after, moments_from, Recovers}
use Rattle.arti_service.specs.declared.conversation.Ending as talk
use Rattle.arti_service.specs.declared.conversation.Ending.TheVariants as ending
use Rattle.arti_main.specs.declared.top.Status.{Status}
use Rattle.arti_main.specs.declared.top.Status.TheVariants.{Ok, Usage, NotAStore, DiskFault, TellFault, SourceFault, BadInput, TooManyRequests, Memory}

-- the status that an ending of the input makes
abbrev pub status_of : model.Ending → Status
status_of model.End = Ok
status_of model.Cut = BadInput
status_of (model.Bad why) = BadInput
status_of model.TooMany = TooManyRequests

-- the files are those of a store that has this
abbrev pub HasStock : Limits → Bytes → Stock → Type 0
HasStock limits files s = Stands limits files s.holding s.used

-- What was told for these requests, which end so: a reply to each in turn, request k at the moment start + k, on that store. The files are then
-- those of the store that the requests leave.
pub record ToldFor (limits : Limits) (start : ℕ) (s : Stock) (requests : List Whole) (ending : model.Ending) (told told' : List ℕ) (files : Bytes) : Type 0 where
  pub bytes : List ℕ
  pub answers : AnswersAll limits (moments_from (pos start) limits.requests) s requests ending bytes
  pub told_is : told' ≡ told ++ bytes
  pub leaves : HasStock limits files (stock_after limits (moments_from (pos start) limits.requests) s requests)

-- the input is requests that end so, and what was told is for these
pub record Replays (limits : Limits) (start : ℕ) (s : Stock) (input told told' : List ℕ) (files : Bytes) (ending : model.Ending) : Type 0 where
  pub requests : List Whole
  pub reads : RequestBytes limits.content limits.requests input requests ending
  pub tells : ToldFor limits start s requests ending told told' files

-- a fact of the ending of the input, where the status tells it
abbrev pub AtInputEnd : Status → (model.Ending → Type 0) → Type 0
AtInputEnd Ok P = P model.End
AtInputEnd Usage P = Unit {0}
AtInputEnd NotAStore P = Unit {0}
AtInputEnd DiskFault P = Unit {0}
AtInputEnd TellFault P = Unit {0}
AtInputEnd SourceFault P = Unit {0}
AtInputEnd BadInput P = P model.Cut ⊎ ((why : Why) × P (model.Bad why))
AtInputEnd TooManyRequests P = P model.TooMany
AtInputEnd Memory P = Unit {0}

-- the exit status of the program
abbrev pub code_of : Status → ℕ
code_of Ok = 0
code_of Usage = 2
code_of NotAStore = 3
code_of DiskFault = 4
code_of TellFault = 5
code_of SourceFault = 6
code_of BadInput = 7
code_of TooManyRequests = 8
code_of Memory = 9

-- the status of a run whose conversation ended so
abbrev pub status_for : talk.Ending → Status
status_for ending.End = Ok
status_for ending.Cut = BadInput
status_for (ending.Bad why) = BadInput
status_for ending.TooMany = TooManyRequests
status_for ending.Disk = DiskFault
status_for ending.Tell = TellFault
status_for ending.Source = SourceFault
status_for ending.Memory = Memory

-- the ending of a conversation that a fault or want of memory makes, for a status that tells one
abbrev pub fault_of : Status → talk.Ending
fault_of Ok = ending.End
fault_of Usage = ending.End
fault_of NotAStore = ending.End
fault_of DiskFault = ending.Disk
fault_of TellFault = ending.Tell
fault_of SourceFault = ending.Source
fault_of BadInput = ending.End
fault_of TooManyRequests = ending.End
fault_of Memory = ending.Memory

-- where a replay begins: on that store, before the whole input
abbrev pub beginning : Limits → ℕ → Stock → List ℕ → Standing
beginning limits start s input =
    record { most = limits.requests; moments = moments_from (pos start) limits.requests; stock = s; input = input }

-- After a fault or want of memory, what was told is the replies to the first whole requests of the input, and after a fault of the disk or of
-- telling some first bytes of the next reply behind them. Where the store wasn't opened, nothing was told.
abbrev pub CutSo : Status → Limits → ℕ → Stock → List ℕ → List ℕ → List ℕ → Type 0
CutSo status limits start s input told told' =
    (told' ≡ told) ⊎ ((after : Stock) × Stops (fault_of status) limits (beginning limits start s input) told told' after)

-- At a moment of a run on files that were a store's: the image is that of the store after a prefix of the accepted changes, which holds each
-- one whose reply has a byte among those that were told, and at most one more.
abbrev pub AtAnyMoment : Limits → ℕ → Bytes → List ℕ → Bytes → Bytes → Bytes → Type 0
AtAnyMoment limits start files input told c w =
    (s : Stock) → HasStock limits files s → AtMoment limits 0 told (Recovers limits limits.requests (moments_from (pos start) limits.requests) s input) c w
