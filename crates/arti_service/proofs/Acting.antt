-- What answers do, put together from what their parts do.
use Rattle.std.proofs.Common.{◌≡◌, ℕ, ◌+◌, List, [], ◌++◌, length, take, refl, sym, ap, ◌∙◌, subst, append_assoc, arith}
use Rattle.std.specs.Prelude.{min, Result, Ok, Err, IfErr, OnOk, OnErr}
use Rattle.std.proofs.lemmas.List.{append-nil, take-append-le, take_min}
use Rattle.std.proofs.Math.Seq.{take-append-add}
use Rattle.arti_rows.specs.declared.limits.Limits.{Limits}
use Rattle.arti_ground.specs.State.{Bytes, State, Passes, LeavesDisk}
use Rattle.arti_ground.specs.Moments.{passes_map, passes_then}
use Rattle.arti_model.specs.Apply.{Holding}
use Rattle.arti_model.specs.Stock.{Stock}
use Rattle.arti_store.specs.ImageLaws.{store_leaves}
use Rattle.arti_store.specs.Store.{View, holding_of, Stands, HoldsStore, Standing, shows}
use Rattle.arti_service.specs.declared.answering.Stop.{Stop}
use Rattle.arti_service.specs.declared.answering.Stop.TheVariants as stop
use Rattle.arti_service.specs.Asks.{Tells}
use Rattle.arti_service.specs.Cuts.{TellsFront, StopsTelling, StoppedIn}
use Rattle.arti_service.specs.Stocks.{IsReady}
use Rattle.arti_service.specs.Moments.{AtMoment, Telling, During, waits, tells}
use Rattle.arti_service.specs.Acts.{Acts}
use Rattle.arti_service.specs.CrashLaws.{image_stands}
use Rattle.arti_service.proofs.Stops.{stops_telling, stopped_more, tells_in, tells_more}

-- a call that leaves the disk leaves the store
pub leaves_stock : (s s' : State) (v : View) → LeavesDisk s s' → shows s' v ≡ shows s v
leaves_stock s s' v disk = ap (λ (f : Bytes). record { holding = holding_of (f 3) v; used = v.used }) disk.files

pub stays : (s s' : State) (v : View) → LeavesDisk s s' → HoldsStore s v → HoldsStore s' v
stays s s' v disk holds = store_leaves s s' v disk holds

-- at a moment of telling, in an open store
pub telling_moment : (limits : Limits) (line : ℕ) (IsOne : List ℕ → Type 0) (reply : List ℕ) (s : State) (v : View) (before : Holding)
    → IsReady limits v → HoldsStore s v → IsOne reply
    → (c w : Bytes) → Telling s line reply c w → AtMoment limits line s.told (During IsOne before (shows s v).holding) c w
telling_moment limits line IsOne reply s v before ready holds one c w here = record {
  told = take here.n reply;
  told_is = here.told;
  holding = holding_of (s.files 3) v;
  used = v.used;
  stands = image_stands limits s v ready holds c here.was;
  fits = tells here.n one;
}

-- a reply is told in an open store
pub telling_acts : (limits : Limits) (line : ℕ) (IsOne : List ℕ → Type 0) (reply : List ℕ) (result : Result (Unit {0}) Stop) (s s' : State) (v : View)
    → IsReady limits v → HoldsStore s v → IsOne reply → LeavesDisk s s'
    → OnOk result (s'.told line ≡ s.told line ++ reply)
    → IfErr result (λ stop. StopsTelling stop reply (s.told line) (s'.told line))
    → Passes s s' (Telling s line reply)
    → Acts limits line IsOne (shows s v) result s s' v v
telling_acts limits line IsOne reply result s s' v ready holds one disk told stops time = record {
  told = tells_in result IsOne reply (s.told line) (s'.told line) one told;
  stock = λ disk_works memory. leaves_stock s s' v disk;
  holds = λ disk_works memory. stays s s' v disk holds;
  stops = stops_telling result IsOne reply (s.told line) (s'.told line) one stops;
  moments = passes_map s s' (Telling s line reply) _ (telling_moment limits line IsOne reply s v (shows s v).holding ready holds one) time;
}

-- a fact of moments that is wider
moment_map : (limits : Limits) (line : ℕ) (start : Bytes) (P Q : List ℕ → Holding → Type 0) → ((told : List ℕ) (h : Holding) → P told h → Q told h)
    → (c w : Bytes) → AtMoment limits line start P c w → AtMoment limits line start Q c w
moment_map limits line start P Q f c w m = record { told = m.told; told_is = m.told_is; holding = m.holding; used = m.used; stands = m.stands; fits = f m.told m.holding m.fits }

pub moments_map : (limits : Limits) (line : ℕ) (start : Bytes) (s s' : State) (P Q : List ℕ → Holding → Type 0) → ((told : List ℕ) (h : Holding) → P told h → Q told h)
    → Passes s s' (AtMoment limits line start P) → Passes s s' (AtMoment limits line start Q)
moments_map limits line start s s' P Q f p = passes_map s s' _ _ (moment_map limits line start P Q f) p

during_more : (P Q : List ℕ → Type 0) (before behind : Holding) → ((reply : List ℕ) → P reply → Q reply) → (told : List ℕ) (h : Holding) → During P before behind told h → During Q before behind told h
during_more P Q before behind wider told h waits = waits
during_more P Q before behind wider told h (tells {reply} n one) = tells n (wider reply one)

-- more replies, and a store that is the same
pub acts_more : (limits : Limits) (line : ℕ) (P Q : List ℕ → Type 0) (behind behind' : Stock) (result : Result (Unit {0}) Stop) (s s' : State) (v v' : View)
    → ((reply : List ℕ) → P reply → Q reply) → behind ≡ behind' → Acts limits line P behind result s s' v v' → Acts limits line Q behind' result s s' v v'
acts_more limits line P Q behind behind' result s s' v v' wider same a =
    subst (λ (x : Stock). Acts limits line Q x result s s' v v') same (record {
      told = tells_more result P Q (s.told line) (s'.told line) wider a.told;
      stock = a.stock;
      holds = a.holds;
      stops = stopped_more result P Q (s.told line) (s'.told line) wider a.stops;
      moments = moments_map limits line s.told s s' _ _ (during_more P Q (shows s v).holding behind.holding wider) a.moments;
    })

-- an answer behind calls that told nothing and left what the store has
pub acts_after : (limits : Limits) (line : ℕ) (IsOne : List ℕ → Type 0) (behind : Stock) (result : Result (Unit {0}) Stop) (s s1 s' : State) (v v1 v' : View)
    → s1.told ≡ s.told → shows s1 v1 ≡ shows s v
    → Passes s s1 (AtMoment limits line s.told (During IsOne (shows s v).holding behind.holding))
    → Acts limits line IsOne behind result s1 s' v1 v' → Acts limits line IsOne behind result s s' v v'
acts_after limits line IsOne behind result s s1 s' v v1 v' quiet same time a = record {
  told = subst (λ (t : Bytes). OnOk result (Tells IsOne (t line) (s'.told line))) quiet a.told;
  stock = a.stock;
  holds = a.holds;
  stops = subst (λ (t : Bytes). IfErr result (λ stop. StoppedIn stop IsOne (t line) (s'.told line))) quiet a.stops;
  moments = passes_then s s1 s' _ time
      (subst (λ (x : Stock). Passes s1 s' (AtMoment limits line s.told (During IsOne x.holding behind.holding))) same
      (subst (λ (t : Bytes). Passes s1 s' (AtMoment limits line t (During IsOne (shows s1 v1).holding behind.holding))) quiet a.moments));
}

-- at a moment of a staging nothing was told, and the store is as before
pub standing_moment : (limits : Limits) (line : ℕ) (IsOne : List ℕ → Type 0) (behind : Holding) (s : State) (v : View) → IsReady limits v
    → (c w : Bytes) → Standing s v c w → AtMoment limits line s.told (During IsOne (shows s v).holding behind) c w
standing_moment limits line IsOne behind s v ready c w here = record {
  told = [];
  told_is = ap (λ (t : Bytes). t line) here.told ∙ sym (append-nil (s.told line));
  holding = holding_of (s.files 3) v;
  used = v.used;
  stands = subst (λ (l : Limits). Stands l c (holding_of (s.files 3) v) v.used) ready.limits_are here.image;
  fits = waits;
}

-- the first bytes of the first of two parts
pub in_first : (n : ℕ) (a b told told' : List ℕ) → told' ≡ told ++ take n a → told' ≡ told ++ take (min n (length a)) (a ++ b)
in_first n a b told told' is =
    is ∙ ap (λ (l : List ℕ). told ++ l) (sym (take_min n a) ∙ sym (take-append-le (min n (length a)) a b (omega arith)))

-- the first part, and the first bytes of the second
pub in_second : (n : ℕ) (a b told told1 told' : List ℕ) → told1 ≡ told ++ a → told' ≡ told1 ++ take n b → told' ≡ told ++ take (length a + n) (a ++ b)
in_second n a b told told1 told' first is =
    is ∙ ap (λ (l : List ℕ). l ++ take n b) first ∙ append_assoc told a (take n b) ∙ ap (λ (l : List ℕ). told ++ l) (sym (take-append-add a b n))

first_moment : (s : State) (line : ℕ) (a b : List ℕ) (c w : Bytes) → Telling s line a c w → Telling s line (a ++ b) c w
first_moment s line a b c w here = record { was = here.was; n = min here.n (length a); told = in_first here.n a b (s.told line) (w line) here.told }

second_moment : (s s1 : State) (line : ℕ) (a b : List ℕ) → LeavesDisk s s1 → s1.told line ≡ s.told line ++ a → (c w : Bytes) → Telling s1 line b c w → Telling s line (a ++ b) c w
second_moment s s1 line a b disk first c w here = record {
  was = disk.images c here.was;
  n = length a + here.n;
  told = in_second here.n a b (s.told line) (s1.told line) (w line) first here.told;
}

-- the first part alone
pub time_first : (s s1 : State) (line : ℕ) (a b : List ℕ) → Passes s s1 (Telling s line a) → Passes s s1 (Telling s line (a ++ b))
time_first s s1 line a b time = passes_map s s1 _ _ (first_moment s line a b) time

-- both
pub time_both : (s s1 s2 : State) (line : ℕ) (a b : List ℕ) → LeavesDisk s s1 → s1.told line ≡ s.told line ++ a
    → Passes s s1 (Telling s line a) → Passes s1 s2 (Telling s1 line b) → Passes s s2 (Telling s line (a ++ b))
time_both s s1 s2 line a b disk first time next =
    passes_then s s1 s2 _ (time_first s s1 line a b time) (passes_map s1 s2 _ _ (second_moment s s1 line a b disk first) next)

-- how telling stops in the first of two parts, and in the second
pub first_stops : (x : Stop) (a b told told' : List ℕ) → StopsTelling x a told told' → StopsTelling x (a ++ b) told told'
first_stops stop.Disk a b told told' stops = stops
first_stops stop.Tell a b told told' stops = (min stops.0 (length a), in_first stops.0 a b told told' stops.1)
first_stops stop.Memory a b told told' stops = stops

pub second_stops : (result : Result (Unit {0}) Stop) (a b told told1 told' : List ℕ) → (result ≡ Err stop.Memory → ⊥) → told1 ≡ told ++ a
    → IfErr result (λ x. StopsTelling x b told1 told') → IfErr result (λ x. StopsTelling x (a ++ b) told told')
second_stops (Ok x) a b told told1 told' some first stops = tt
second_stops (Err stop.Disk) a b told told1 told' some first stops = stops
second_stops (Err stop.Tell) a b told told1 told' some first stops = (length a + stops.0, in_second stops.0 a b told told1 told' first stops.1)
second_stops (Err stop.Memory) a b told told1 told' some first stops = absurd (some refl)

-- the same in the words of a front
pub first_front : (x : Stop) (a b told told' : List ℕ) → (x ≡ stop.Memory → ⊥) → StopsTelling x a told told' → TellsFront (a ++ b) told told'
first_front stop.Disk a b told told' some stops = absurd stops
first_front stop.Tell a b told told' some stops = (min stops.0 (length a), in_first stops.0 a b told told' stops.1)
first_front stop.Memory a b told told' some stops = absurd (some refl)

pub second_front : (result : Result (Unit {0}) Stop) (a b told told1 told' : List ℕ) → told1 ≡ told ++ a → OnErr result (TellsFront b told1 told') → OnErr result (TellsFront (a ++ b) told told')
second_front (Ok x) a b told told1 told' first front = tt
second_front (Err x) a b told told1 told' first front = (length a + front.0, in_second front.0 a b told told1 told' first front.1)
