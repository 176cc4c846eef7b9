-- A run without a fault answers its whole input.
use Rattle.std.specs.Prelude.{Some}
use Rattle.arti_main.specs.declared.words.Command.TheVariants.{Replay}
use Rattle.std.proofs.Common.{◌≡◌, ◌⊎◌, inl, inr, ℕ, List, refl, subst, ap}
use Rattle.arti_rows.specs.declared.limits.Limits.{Limits}
use Rattle.arti_ground.specs.State.{Bytes}
use Rattle.arti_model.specs.Requests as model
use Rattle.arti_model.specs.Requests.{Whole, RequestBytes}
use Rattle.arti_model.specs.Stock.{Stock}
use Rattle.arti_main.specs.declared.top.Status.{Status}
use Rattle.arti_main.specs.declared.top.Status.TheVariants as status
use Rattle.arti_main.specs.Answered.{status_of, ToldFor, Replays, AtInputEnd}

-- bytes are requests in one way
abbrev pub OneReading : Type 0
OneReading =
    (content most : ℕ) (bytes : List ℕ) (qs rs : List Whole) (e f : model.Ending)
    → RequestBytes content most bytes qs e → RequestBytes content most bytes rs f → (qs ≡ rs) × (e ≡ f)

module _ (law : OneReading) (limits : Limits) (start : ℕ) (stock : Stock) (input told told' : List ℕ) (files : Bytes) (requests : List Whole) (ending : model.Ending) (reads : RequestBytes limits.content limits.requests input requests ending) where
  -- the answer to the input so read is the answer to it
  same : (e : model.Ending) → Replays limits start stock input told told' files e → (status_of e ≡ status_of ending) × ToldFor limits start stock requests ending told told' files
  same e replays =
      let one = law limits.content limits.requests input replays.requests requests e ending replays.reads reads in (
        ap status_of one.1,
        subst (λ (x : model.Ending). ToldFor limits start stock requests x told told' files) one.1 (subst (λ (qs : List Whole). ToldFor limits start stock qs e told told' files) one.0 replays.tells),
      )

  -- the status is that of the ending, or there was a fault or no memory
  pub completes : (s : Status) → (s ≡ status.Usage → ⊥) → (s ≡ status.NotAStore → ⊥) → (s ≡ status.DiskFault → ⊥) → (s ≡ status.TellFault → ⊥) → (s ≡ status.SourceFault → ⊥) → AtInputEnd s (Replays limits start stock input told told' files)
      → (s ≡ status.Memory) ⊎ ((s ≡ status_of ending) × ToldFor limits start stock requests ending told told' files)
  completes status.Ok u n d t f at = inr (same model.End at)
  completes status.Usage u n d t f at = absurd (u refl)
  completes status.NotAStore u n d t f at = absurd (n refl)
  completes status.DiskFault u n d t f at = absurd (d refl)
  completes status.TellFault u n d t f at = absurd (t refl)
  completes status.SourceFault u n d t f at = absurd (f refl)
  completes status.BadInput u n d t f (inl cut) = inr (same model.Cut cut)
  completes status.BadInput u n d t f (inr bad) = inr (same (model.Bad bad.0) bad.1)
  completes status.TooManyRequests u n d t f at = inr (same model.TooMany at)
  completes status.Memory u n d t f at = inl refl

-- no store is there, and that is the status, or there was a fault or no memory
pub refuses : (s : Status) (A : Type 0) → (A → ⊥) → (s ≡ status.Usage → ⊥) → (s ≡ status.DiskFault → ⊥) → ((s ≡ status.NotAStore → ⊥) → (s ≡ status.DiskFault → ⊥) → (s ≡ status.Memory → ⊥) → A) → (s ≡ status.Memory) ⊎ (s ≡ status.NotAStore)
refuses status.Ok A never u d has = absurd (never (has (λ e. cc) (λ e. cc) (λ e. cc)))
refuses status.Usage A never u d has = absurd (u refl)
refuses status.NotAStore A never u d has = inr refl
refuses status.DiskFault A never u d has = absurd (d refl)
refuses status.TellFault A never u d has = absurd (never (has (λ e. cc) (λ e. cc) (λ e. cc)))
refuses status.SourceFault A never u d has = absurd (never (has (λ e. cc) (λ e. cc) (λ e. cc)))
refuses status.BadInput A never u d has = absurd (never (has (λ e. cc) (λ e. cc) (λ e. cc)))
refuses status.TooManyRequests A never u d has = absurd (never (has (λ e. cc) (λ e. cc) (λ e. cc)))
refuses status.Memory A never u d has = inl refl

-- one command has one start
pub starts_same : (a b : ℕ) → Some (Replay a) ≡ Some (Replay b) → a ≡ b
starts_same a b is = cc
