-- A run from the opening of the store on.
use Rattle.std.proofs.Common.{◌≡◌, inl, inr, ℕ, ℤ, pos, List, [], refl, sym, ap, ◌∙◌, subst}
use Rattle.std.proofs.lemmas.List.{append-nil}
use Rattle.arti_rows.specs.declared.limits.Limits.{Limits}
use Rattle.arti_ground.specs.State.{Bytes, State, Passes, AfterSync, IsSound}
use Rattle.arti_ground.specs.Moments.{passes_map, since_then, since_map, since_here, after_map}
use Rattle.arti_model.specs.Requests as model
use Rattle.arti_model.specs.Apply.{Holding}
use Rattle.arti_model.specs.Stock.{Stock}
use Rattle.arti_model.specs.Run.{moments_from, Recovers}
use Rattle.arti_store.specs.Store.{View, holding_of, Stands, HoldsStore, Reopening, shows}
use Rattle.arti_store.specs.ImageLaws.{read_stands}
use Rattle.arti_service.specs.Stocks.{IsReady}
use Rattle.arti_service.specs.Talk.{Answers, AtStreamEnd}
use Rattle.arti_service.specs.Cuts.{Stops}
use Rattle.arti_service.specs.Moments.{AtMoment}
use Rattle.arti_service.specs.CrashLaws.{image_stands, at_start}
use Rattle.arti_service.specs.declared.conversation.Ending.{Ending}
use Rattle.arti_service.specs.declared.conversation.Ending.TheVariants as ending
use Rattle.arti_main.specs.Answered.{status_for, HasStock, Replays, AtInputEnd, beginning, CutSo, AtAnyMoment}

-- files stand for one store
abbrev pub OneStore : Type 0
OneStore = (limits : Limits) (files : Bytes) (h k : Holding) (m n : ℕ) → Stands limits files h m → Stands limits files k n → (h ≡ k) × (m ≡ n)

module _ (limits : Limits) (start : ℕ) (files : Bytes) (input : List ℕ) (told : Bytes) where
  -- the image is that of whatever the files were at first, and nothing was told
  reopened : (old : State) → old.files ≡ files → old.told ≡ told → (c w : Bytes) → Reopening old limits c w → AtAnyMoment limits start files input told c w
  reopened old same quiet c w here = λ s has. record {
    told = [];
    told_is = ap (λ (t : Bytes). t 0) (here.told ∙ quiet) ∙ sym (append-nil (told 0));
    holding = s.holding;
    used = s.used;
    stands = here.image s.holding s.used (subst (λ (f : Bytes). Stands limits f s.holding s.used) (sym same) has);
    fits = at_start limits limits.requests (moments_from (pos start) limits.requests) s input;
  }

  pub opening_alone : (old mid : State) → old.files ≡ files → old.told ≡ told → AfterSync old mid (Reopening old limits) → AfterSync old mid (AtAnyMoment limits start files input told)
  opening_alone old mid same quiet after = after_map old mid (Reopening old limits) (AtAnyMoment limits start files input told) (reopened old same quiet) after

module _ (one : OneStore) (limits : Limits) (start : ℕ) (input : List ℕ) (old mid new : State) (v : View)
    (was : Stands limits old.files (holding_of (old.files 3) v) v.used) (contents : mid.files 3 ≡ old.files 3) (quiet : mid.told ≡ old.told) where
  abbrev opened : Stock
  opened = shows mid v

  -- the store that was opened is the one that the files were
  pub the_stock : (s : Stock) → HasStock limits old.files s → opened ≡ s
  the_stock s has =
      let same = one limits old.files (holding_of (old.files 3) v) s.holding v.used s.used was has in
      (λ i. record { holding = holding_of (contents i) v; used = v.used }) ∙ (λ i. record { holding = same.0 i; used = same.1 i })

  talking : (c w : Bytes) → AtMoment limits 0 mid.told (Recovers limits limits.requests (moments_from (pos start) limits.requests) opened input) c w → AtAnyMoment limits start old.files input old.told c w
  talking c w here = λ s has.
      subst (λ (t : Bytes). AtMoment limits 0 t (Recovers limits limits.requests (moments_from (pos start) limits.requests) s input) c w) quiet
      (subst (λ (x : Stock). AtMoment limits 0 mid.told (Recovers limits limits.requests (moments_from (pos start) limits.requests) x input) c w) (the_stock s has) here)

  pub then_talking : IsSound old → IsSound mid → IsReady limits v → HoldsStore mid v → AfterSync old mid (Reopening old limits)
      → Passes mid new (AtMoment limits 0 mid.told (Recovers limits limits.requests (moments_from (pos start) limits.requests) opened input))
      → AfterSync old new (AtAnyMoment limits start old.files input old.told)
  then_talking begins sound ready holds (inl p) talk =
      inl (since_then old mid new _ (since_map old mid _ _ (reopened limits start old.files input old.told old refl refl) p) (passes_map mid new _ _ talking talk))
  then_talking begins sound ready holds (inr reads) talk =
      inl (since_here old mid new _ begins reads sound
      (λ c left. talking c mid.told (record {
        told = [];
        told_is = sym (append-nil (mid.told 0));
        holding = opened.holding;
        used = opened.used;
        stands = image_stands limits mid v ready holds c left;
        fits = at_start limits limits.requests (moments_from (pos start) limits.requests) opened input;
      }))
      (passes_map mid new _ _ talking talk))

-- ---- how the conversation's end is the run's

ended : (limits : Limits) (start : ℕ) (s : Stock) (input told told' : List ℕ) (new : State) (v : View) (e : model.Ending)
    → Answers limits limits.requests (moments_from (pos start) limits.requests) s input told told' (shows new v) e → HoldsStore new v → IsReady limits v → Replays limits start s input told told' new.files e
ended limits start s input told told' new v e a holds ready =
    let answered = a.1 in
    record {
      requests = answered.requests;
      reads = answered.reads;
      tells = record {
        bytes = a.0;
        answers = answered.answers;
        told_is = a.2;
        leaves = subst (λ (x : Stock). HasStock limits new.files x) answered.leaves
            (subst (λ (l : Limits). Stands l new.files (holding_of (new.files 3) v) v.used) ready.limits_are (read_stands new v (holds ready.still_open)));
      };
    }

-- a fact where the store serves on
abbrev pub IfServes : Ending → Type 0 → Type 0
IfServes e A = (e ≡ ending.Disk → ⊥) → (e ≡ ending.Memory → ⊥) → A

pub at_input_end : (limits : Limits) (start : ℕ) (s : Stock) (input told told' : List ℕ) (new : State) (v : View) (e : Ending)
    → AtStreamEnd e (Answers limits limits.requests (moments_from (pos start) limits.requests) s input told told' (shows new v)) → IfServes e (HoldsStore new v) → IfServes e (IsReady limits v)
    → AtInputEnd (status_for e) (Replays limits start s input told told' new.files)
at_input_end limits start s input told told' new v ending.End a h r = ended limits start s input told told' new v model.End a (h (λ q. cc) (λ q. cc)) (r (λ q. cc) (λ q. cc))
at_input_end limits start s input told told' new v ending.Cut a h r = inl (ended limits start s input told told' new v model.Cut a (h (λ q. cc) (λ q. cc)) (r (λ q. cc) (λ q. cc)))
at_input_end limits start s input told told' new v (ending.Bad why) a h r = inr (why, ended limits start s input told told' new v (model.Bad why) a (h (λ q. cc) (λ q. cc)) (r (λ q. cc) (λ q. cc)))
at_input_end limits start s input told told' new v ending.TooMany a h r = ended limits start s input told told' new v model.TooMany a (h (λ q. cc) (λ q. cc)) (r (λ q. cc) (λ q. cc))
at_input_end limits start s input told told' new v ending.Disk a h r = tt
at_input_end limits start s input told told' new v ending.Tell a h r = tt
at_input_end limits start s input told told' new v ending.Source a h r = tt
at_input_end limits start s input told told' new v ending.Memory a h r = tt

pub cut_end : (limits : Limits) (start : ℕ) (s : Stock) (input told told' : List ℕ) (after : Stock) (e : Ending) → Stops e limits (beginning limits start s input) told told' after → CutSo (status_for e) limits start s input told told'
cut_end limits start s input told told' after ending.End stops = inr (after, stops)
cut_end limits start s input told told' after ending.Cut stops = inr (after, (stops.0, stops.1, stops.2, tt))
cut_end limits start s input told told' after (ending.Bad why) stops = inr (after, (stops.0, stops.1, stops.2, tt))
cut_end limits start s input told told' after ending.TooMany stops = inr (after, (stops.0, stops.1, stops.2, tt))
cut_end limits start s input told told' after ending.Disk stops = inr (after, stops)
cut_end limits start s input told told' after ending.Tell stops = inr (after, stops)
cut_end limits start s input told told' after ending.Source stops = inr (after, stops)
cut_end limits start s input told told' after ending.Memory stops = inr (after, stops)

-- ---- the same, of the store that the files were, by the clock of the run

module _ (one : OneStore) (limits : Limits) (start : ℕ) (input : List ℕ) (old mid new : State) (v : View)
    (was : Stands limits old.files (holding_of (old.files 3) v) v.used) (contents : mid.files 3 ≡ old.files 3) (quiet : mid.told ≡ old.told)
    (moments : List ℤ) (clock : moments ≡ moments_from (pos start) limits.requests) where
  abbrev first : Stock
  first = shows mid v

  its_stock : (s : Stock) → HasStock limits old.files s → first ≡ s
  its_stock s has = the_stock one limits start input old mid new v was contents quiet s has

  pub replies_so : (v' : View) (e : Ending) → AtStreamEnd e (Answers limits limits.requests moments first input (mid.told 0) (new.told 0) (shows new v'))
      → IfServes e (HoldsStore new v') → IfServes e (IsReady limits v')
      → (s : Stock) → HasStock limits old.files s → AtInputEnd (status_for e) (Replays limits start s input (old.told 0) (new.told 0) new.files)
  replies_so v' e a h r s has =
      let told = at_input_end limits start first input (mid.told 0) (new.told 0) new v' e
      (subst (λ (m : List ℤ). AtStreamEnd e (Answers limits limits.requests m first input (mid.told 0) (new.told 0) (shows new v'))) clock a) h r in
      subst (λ (t : Bytes). AtInputEnd (status_for e) (Replays limits start s input (t 0) (new.told 0) new.files)) quiet
      (subst (λ (x : Stock). AtInputEnd (status_for e) (Replays limits start x input (mid.told 0) (new.told 0) new.files)) (its_stock s has) told)

  pub cut_so : (after : Stock) (e : Ending) → Stops e limits (record { most = limits.requests; moments = moments; stock = first; input = input }) (mid.told 0) (new.told 0) after
      → (s : Stock) → HasStock limits old.files s → CutSo (status_for e) limits start s input (old.told 0) (new.told 0)
  cut_so after e stops s has =
      let cut = cut_end limits start first input (mid.told 0) (new.told 0) after e
      (subst (λ (m : List ℤ). Stops e limits (record { most = limits.requests; moments = m; stock = first; input = input }) (mid.told 0) (new.told 0) after) clock stops) in
      subst (λ (t : Bytes). CutSo (status_for e) limits start s input (t 0) (new.told 0)) quiet
      (subst (λ (x : Stock). CutSo (status_for e) limits start x input (mid.told 0) (new.told 0)) (its_stock s has) cut)

  pub crash_so : IsSound old → IsSound mid → IsReady limits v → HoldsStore mid v → AfterSync old mid (Reopening old limits)
      → Passes mid new (AtMoment limits 0 mid.told (Recovers limits limits.requests moments first input))
      → AfterSync old new (AtAnyMoment limits start old.files input old.told)
  crash_so begins sound ready holds time talk =
      then_talking one limits start input old mid new v was contents quiet begins sound ready holds time
      (subst (λ (m : List ℤ). Passes mid new (AtMoment limits 0 mid.told (Recovers limits limits.requests m first input))) clock talk)
