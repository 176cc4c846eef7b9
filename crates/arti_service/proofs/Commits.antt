-- What a change that is committed, or isn't, makes of an answer.
use Rattle.std.proofs.Common.{◌≡◌, ⊎_elim, ℕ, List, [], ◌++◌, take, refl, sym, ap, ◌∙◌, subst}
use Rattle.std.specs.Prelude.{Result, Ok, Err, IfErr, OnOk, OnErr, Some}
use Rattle.std.proofs.lemmas.List.{append-nil}
use Rattle.arti_rows.specs.declared.limits.Limits.{Limits}
use Rattle.arti_rows.specs.declared.edits.Change.{Change}
use Rattle.arti_rows.specs.declared.refusal.Which.{Which}
use Rattle.arti_ground.specs.State.{Bytes, State, Passes, LeavesDisk}
use Rattle.arti_ground.specs.Moments.{passes_map, passes_then}
use Rattle.arti_model.specs.Apply.{Holding}
use Rattle.arti_model.specs.Stock.{Stock, Answer, unchanged}
use Rattle.arti_store.specs.Store.{View, shows, HoldsStore, Standing}
use Rattle.arti_store.specs.Commit.{Committing}
use Rattle.arti_service.specs.declared.answering.Stop.{Stop}
use Rattle.arti_service.specs.declared.answering.Stop.TheVariants as stop
use Rattle.arti_service.specs.Cuts.{TellsFront, StopsTelling, StoppedIn}
use Rattle.arti_service.specs.Stocks.{IsReady}
use Rattle.arti_service.specs.Moments.{AtMoment, Telling, During, waits, tells}
use Rattle.arti_service.specs.Parts.{full_reply}
use Rattle.arti_service.specs.Asks.{Tells}
use Rattle.arti_service.specs.Acts.{Acts, ActsFor}
use Rattle.arti_service.specs.CrashLaws.{image_stands}
use Rattle.arti_service.proofs.Stops.{tells_in}
use Rattle.arti_service.proofs.Acting.{leaves_stock, stays, telling_moment, telling_acts, acts_after, standing_moment}

untold : (why : Stop) (IsOne : List ℕ → Type 0) (reply told told' : List ℕ) → IsOne reply → told' ≡ told → StoppedIn why IsOne told told'
untold stop.Disk IsOne reply told told' one is = (reply, one, (0, is ∙ sym (append-nil told)))
untold stop.Tell IsOne reply told told' one is = (reply, one, (0, is ∙ sym (append-nil told)))
untold stop.Memory IsOne reply told told' one is = is

-- a fault of the disk, or want of memory
abbrev pub Loses : Stop → Type 0
Loses why =
    let result : Result (Unit {0}) Stop = Err why in
    (result ≡ Err stop.Disk → ⊥) → (result ≡ Err stop.Memory → ⊥) → ⊥

-- a fault of the disk or want of memory while nothing was told and the store stood as it was
pub standing_acts : (limits : Limits) (line : ℕ) (answer : Answer) (why : Stop) (s s1 : State) (v v1 : View) → Loses why → IsReady limits v → s1.told ≡ s.told → Passes s s1 (Standing s v)
    → ActsFor limits line answer (Err why) s s1 v v1
standing_acts limits line answer why s s1 v v1 loses ready quiet time = record {
  told = tt;
  stock = λ disk memory. absurd (loses disk memory);
  holds = λ disk memory. absurd (loses disk memory);
  stops = untold why (λ r. r ≡ answer.reply) answer.reply (s.told line) (s1.told line) refl (ap (λ (t : Bytes). t line) quiet);
  moments = passes_map s s1 _ _ (standing_moment limits line (λ r. r ≡ answer.reply) answer.stock.holding s v ready) time;
}

-- an answer behind a staging
pub staged_acts : (limits : Limits) (line : ℕ) (answer : Answer) (result : Result (Unit {0}) Stop) (s s1 s2 : State) (v v1 v2 : View) → IsReady limits v → s1.told ≡ s.told → shows s1 v1 ≡ shows s v
    → Passes s s1 (Standing s v) → ActsFor limits line answer result s1 s2 v1 v2 → ActsFor limits line answer result s s2 v v2
staged_acts limits line answer result s s1 s2 v v1 v2 ready quiet same time acts =
    acts_after limits line (λ r. r ≡ answer.reply) answer.stock result s s1 s2 v v1 v2 quiet same
    (passes_map s s1 _ _ (standing_moment limits line (λ r. r ≡ answer.reply) answer.stock.holding s v ready) time) acts

stops_front : (result : Result (Unit {0}) Stop) (IsOne : List ℕ → Type 0) (reply told told' : List ℕ) → IsOne reply → (result ≡ Err stop.Memory → ⊥) → OnErr result (TellsFront reply told told') → IfErr result (λ s. StoppedIn s IsOne told told')
stops_front (Ok x) IsOne reply told told' one some front = tt
stops_front (Err stop.Disk) IsOne reply told told' one some front = (reply, one, front)
stops_front (Err stop.Tell) IsOne reply told told' one some front = (reply, one, front)
stops_front (Err stop.Memory) IsOne reply told told' one some front = absurd (some refl)

-- a reply is told in blocks in an open store
pub front_acts : (limits : Limits) (line : ℕ) (reply : List ℕ) (result : Result (Unit {0}) Stop) (s s1 : State) (v : View)
    → IsReady limits v → HoldsStore s v → LeavesDisk s s1 → (result ≡ Err stop.Memory → ⊥)
    → OnOk result (s1.told line ≡ s.told line ++ reply) → OnErr result (TellsFront reply (s.told line) (s1.told line)) → Passes s s1 (Telling s line reply)
    → Acts limits line (λ r. r ≡ reply) (shows s v) result s s1 v v
front_acts limits line reply result s s1 v ready holds disk some told front time = record {
  told = tells_in result (λ r. r ≡ reply) reply (s.told line) (s1.told line) refl told;
  stock = λ disk_works memory. leaves_stock s s1 v disk;
  holds = λ disk_works memory. stays s s1 v disk holds;
  stops = stops_front result (λ r. r ≡ reply) reply (s.told line) (s1.told line) refl some front;
  moments = passes_map s s1 (Telling s line reply) _ (telling_moment limits line (λ r. r ≡ reply) reply s v (shows s v).holding ready holds refl) time;
}

-- ---- a commit, whose answer is this one

module _ (line : ℕ) (s : State) (v : View) (answer : Answer) where
  abbrev Between : Bytes → Bytes → Type 0
  Between = Committing s v.limits (shows s v) answer.stock

  -- at a moment of it
  commit_moment : (c w : Bytes) → Between c w → AtMoment v.limits line s.told (During (λ reply. reply ≡ answer.reply) (shows s v).holding answer.stock.holding) c w
  commit_moment c w here =
      let quiet : w line ≡ s.told line ++ [] = ap (λ (t : Bytes). t line) here.told ∙ sym (append-nil (s.told line)) in
      ⊎_elim
      (λ old. record { told = []; told_is = quiet; holding = (shows s v).holding; used = v.used; stands = old; fits = waits })
      (λ new. record { told = []; told_is = quiet; holding = answer.stock.holding; used = answer.stock.used; stands = new; fits = tells {reply = answer.reply} 0 refl })
      here.image

  -- a fault of the disk or want of memory in it
  pub stopped_acts : (why : Stop) (s1 : State) (v1 : View) → Loses why → s1.told ≡ s.told → Passes s s1 Between → ActsFor v.limits line answer (Err why) s s1 v v1
  stopped_acts why s1 v1 loses quiet time = record {
    told = tt;
    stock = λ disk memory. absurd (loses disk memory);
    holds = λ disk memory. absurd (loses disk memory);
    stops = untold why (λ r. r ≡ answer.reply) answer.reply (s.told line) (s1.told line) refl (ap (λ (t : Bytes). t line) quiet);
    moments = passes_map s s1 _ _ commit_moment time;
  }

  -- it is done, and the reply told or begun
  pub committed_acts : (reply : List ℕ) (change : Change) (result : Result (Unit {0}) Stop) (s1 s2 : State) (v1 : View) → answer ≡ record { stock = shows s1 v1; reply = reply; change = Some change }
      → s1.told ≡ s.told → IsReady v.limits v1 → HoldsStore s1 v1 → Passes s s1 Between
      → LeavesDisk s1 s2 → (result ≡ Err stop.Memory → ⊥)
      → OnOk result (s2.told line ≡ s1.told line ++ reply) → OnErr result (TellsFront reply (s1.told line) (s2.told line)) → Passes s1 s2 (Telling s1 line reply)
      → ActsFor v.limits line answer result s s2 v v1
  committed_acts reply change result s1 s2 v1 is quiet ready1 holds time disk some told front telling =
      let same_told : s1.told line ≡ s.told line = ap (λ (t : Bytes). t line) quiet in
      let stock1 : shows s1 v1 ≡ answer.stock = sym (ap (λ (a : Answer). a.stock) is) in
      let one : reply ≡ answer.reply = sym (ap (λ (a : Answer). a.reply) is) in
      let P = During (λ r. r ≡ answer.reply) (shows s v).holding answer.stock.holding in
      record {
        told = subst (λ (l : List ℕ). OnOk result (Tells (λ r. r ≡ answer.reply) l (s2.told line))) same_told (tells_in result (λ r. r ≡ answer.reply) reply (s1.told line) (s2.told line) one told);
        stock = λ disk_works memory. leaves_stock s1 s2 v1 disk ∙ stock1;
        holds = λ disk_works memory. stays s1 s2 v1 disk holds;
        stops = subst (λ (l : List ℕ). IfErr result (λ x. StoppedIn x (λ r. r ≡ answer.reply) l (s2.told line))) same_told (stops_front result (λ r. r ≡ answer.reply) reply (s1.told line) (s2.told line) one some front);
        moments = passes_then s s1 s2 _
            (passes_map s s1 _ _ commit_moment time)
            (passes_map s1 s2 _ _ (λ c w here. record {
              told = take here.n reply;
              told_is = here.told ∙ ap (λ (l : List ℕ). l ++ take here.n reply) same_told;
              holding = (shows s1 v1).holding;
              used = v1.used;
              stands = image_stands v.limits s1 v1 ready1 holds c here.was;
              fits = subst (λ (h : Holding). P (take here.n reply) h) (ap (λ (x : Stock). x.holding) (sym stock1)) (tells here.n one);
            }) telling);
      }

  -- there is no room for it, and that was told or begun
  pub full_acts : (w : Which) (result : Result (Unit {0}) Stop) (s1 : State) → answer ≡ unchanged (shows s v) (full_reply w) → IsReady v.limits v → HoldsStore s v
      → LeavesDisk s s1 → OnOk result (s1.told line ≡ s.told line ++ full_reply w) → IfErr result (λ x. StopsTelling x (full_reply w) (s.told line) (s1.told line)) → Passes s s1 (Telling s line (full_reply w))
      → ActsFor v.limits line answer result s s1 v v
  full_acts w result s1 is ready holds disk told stops time =
      subst (λ (a : Answer). ActsFor v.limits line a result s s1 v v) (sym is)
      (telling_acts v.limits line (λ r. r ≡ full_reply w) (full_reply w) result s s1 v ready holds refl disk told stops time)
