-- What is decided, done: from what is left to do back to what the model answers.
use Rattle.std.proofs.Common.{◌≡◌, inl, inr, ⊎_elim, ℕ, ℤ, Bool, true, false, cond, List, length, refl, sym, ap, ◌∙◌, subst}
use Rattle.std.specs.Prelude.{Result, Option, Some, None, nat_lt}
use Rattle.arti_rows.specs.Key.{Key}
use Rattle.arti_rows.specs.DigestsOf.{digests_of}
use Rattle.arti_rows.specs.declared.limits.Limits.{Limits}
use Rattle.arti_rows.specs.declared.rows.FileRef.{FileRef}
use Rattle.arti_rows.specs.declared.rows.SomeDigests.{SomeDigests}
use Rattle.arti_rows.specs.declared.refusal.Refusal.{Refusal}
use Rattle.arti_rows.specs.declared.refusal.Refusal.TheVariants as refusals
use Rattle.arti_ground.specs.State.{State, Passes}
use Rattle.arti_blobs.specs.declared.staging.Staged.{Staged}
use Rattle.arti_blobs.specs.Contents.{content}
use Rattle.arti_model.specs.Requests.{Whole}
use Rattle.arti_model.specs.Store.{Repository, File}
use Rattle.arti_model.specs.Query.{thin_key}
use Rattle.arti_model.specs.Stock.{Stock, Answer, reference_to}
use Rattle.arti_model.specs.Step.{step}
use Rattle.arti_model.specs.Run.{IsReply}
use Rattle.arti_model.specs.Decide as model
use Rattle.arti_model.specs.Decide.{file_of_body}
use Rattle.arti_model.specs.Heads.{is_head}
use Rattle.arti_model.specs.Perform.{perform}
use Rattle.arti_store.specs.Items.{file_in}
use Rattle.arti_store.specs.Store.{View, Standing, shows}
use Rattle.arti_service.specs.declared.answering.Stop.{Stop}
use Rattle.arti_service.specs.declared.ask.Asked.{Asked}
use Rattle.arti_service.specs.declared.ask.Asked.TheVariants as asked
use Rattle.arti_service.specs.declared.decision.Body.{Body}
use Rattle.arti_service.specs.declared.decision.Body.TheVariants.{Json, Kept}
use Rattle.arti_service.specs.declared.decision.Decision.{Decision}
use Rattle.arti_service.specs.declared.decision.Decision.TheVariants.{Refused, Tells, Makes}
use Rattle.arti_service.specs.Asks.{asked_is, IsKnownToRead, MayReply}
use Rattle.arti_service.specs.Acts.{Acts, ActsFor, HasStatus, IsWholeBody, IsWholeIn}
use Rattle.arti_service.specs.Decisions.{AreWhole, IsKept, MayDo, SameDone, decision_in, decided_in, asked_over}
use Rattle.arti_service.specs.Stocks.{IsReady}
use Rattle.arti_service.proofs.Acting.{acts_more}
use Rattle.arti_service.proofs.Commits.{staged_acts}
use Rattle.arti_service.proofs.Deploying.{acts_same}

-- ---- what may be done has what it needs

pub has_status : (v : View) (staged : Option Staged) (d : Decision) → MayDo v staged d → HasStatus d
has_status v staged (Refused why) may = tt
has_status v staged (Tells reply) may = may.status
has_status v staged (Makes change reply) may = may.1.status

module _ (bytes : List ℕ) (v : View) (whole : AreWhole bytes v.contents.kept None) where
  whole_body : (body : Body) → IsKept v.contents.kept body → IsWholeBody bytes body
  whole_body (Json text) is = tt
  whole_body (Kept file) is = whole file is

  pub whole_in : (staged : Option Staged) (d : Decision) → MayDo v staged d → IsWholeIn bytes d
  whole_in staged (Refused why) may = tt
  whole_in staged (Tells reply) may = whole_body reply.body may.kept
  whole_in staged (Makes change reply) may = whole_body reply.body may.1.kept

-- ---- a deploy, behind the staging of what was sent

module _ (line : ℕ) (alone : Bool) (key : Key) (wanted : SomeDigests) (body : List ℕ) (moment : ℤ) where
  abbrev pub answered : Limits → Stock → File → Answer
  answered limits s sent =
      perform limits s alone (model.decide (λ file. reference_to file s.holding.kept) limits s.holding.repository (model.Deploy key wanted) body sent moment)

  pub deploy_acts : (result : Result (Unit {0}) Stop) (x0 x1 x2 : State) (v0 v1 v2 : View) (d : Decision) (file : FileRef)
      → IsReady v0.limits v0 → v1.limits ≡ v0.limits → x1.told ≡ x0.told → shows x1 v1 ≡ shows x0 v0 → Passes x0 x1 (Standing x0 v0)
      → content (x1.files 3) file ≡ body → file.digests ≡ digests_of body
      → SameDone (decision_in (x1.files 3) d) (decided_in (x1.files 3) v1 (model.Deploy key wanted) body (file_in (x1.files 3) file) moment)
      → ActsFor v1.limits line (perform v1.limits (shows x1 v1) alone (decision_in (x1.files 3) d)) result x1 x2 v1 v2
      → ActsFor v0.limits line (answered v0.limits (shows x0 v0) (file_of_body body)) result x0 x2 v0 v2
  deploy_acts result x0 x1 x2 v0 v1 v2 d file ready limits quiet stock time bytes digests same acts =
      let sent : file_in (x1.files 3) file ≡ file_of_body body = λ i. record { content = bytes i; digests = digests i } in
      let there : ActsFor v1.limits line (answered v1.limits (shows x1 v1) (file_in (x1.files 3) file)) result x1 x2 v1 v2 =
      acts_same v1.limits line (perform v1.limits (shows x1 v1) alone (decision_in (x1.files 3) d)) (answered v1.limits (shows x1 v1) (file_in (x1.files 3) file)) result x1 x2 v1 v2 (same v1.limits (shows x1 v1) alone) acts in
      let here : ActsFor v0.limits line (answered v0.limits (shows x0 v0) (file_of_body body)) result x1 x2 v1 v2 =
      subst (λ (l : Limits). ActsFor l line (answered l (shows x0 v0) (file_of_body body)) result x1 x2 v1 v2) limits
      (subst (λ (s : Stock). ActsFor v1.limits line (answered v1.limits s (file_of_body body)) result x1 x2 v1 v2) stock
      (subst (λ (f : File). ActsFor v1.limits line (answered v1.limits (shows x1 v1) f) result x1 x2 v1 v2) sent there)) in
      staged_acts v0.limits line (answered v0.limits (shows x0 v0) (file_of_body body)) result x0 x1 x2 v0 v1 v2 ready quiet stock time here

-- ---- a query leaves the store

module _ (limits : Limits) (s : Stock) (alone : Bool) where
  key_stays : (r : Repository File) (body : List ℕ) (key : Option (List ℕ)) → (perform limits s alone (model.decide_by_key r body key)).stock ≡ s
  key_stays r body None = refl
  key_stays r body (Some key) = refl

  pub query_stays : (r : Repository File) (body : List ℕ) → (perform limits s alone (model.decide_query limits r body)).stock ≡ s
  query_stays r body =
      elim (nat_lt limits.document (length body)) as (λ b. (perform limits s alone (cond b (model.Refused refusals.DocumentTooLarge) (model.decide_by_key r body (thin_key body)))).stock ≡ s)
      [ true ↦ refl | false ↦ key_stays r body (thin_key body) ]

-- ---- the request's step

may_is : (limits : Limits) (s : Stock) (q : Whole) (moment : ℤ) (a : Asked) (answer : Answer) → IsKnownToRead a q.head → answer ≡ step limits s q moment → (reply : List ℕ) → MayReply a answer reply → IsReply limits s q moment reply
may_is limits s q moment (asked.Refused why) answer reads is reply may = inl (may ∙ ap (λ (x : Answer). x.reply) is)
may_is limits s q moment (asked.Deploy key wanted) answer reads is reply may = inl (may ∙ ap (λ (x : Answer). x.reply) is)
may_is limits s q moment (asked.DeployFound key wanted) answer reads is reply may = inl (may ∙ ap (λ (x : Answer). x.reply) is)
may_is limits s q moment (asked.Fetch key) answer reads is reply may = inl (may ∙ ap (λ (x : Answer). x.reply) is)
may_is limits s q moment asked.Query answer reads is reply may =
    ⊎_elim (λ same. inl (same ∙ ap (λ (x : Answer). x.reply) is)) (λ memory. inr (reads, memory)) may

pub step_acts : (line : ℕ) (alone : Bool) (q : Whole) (moment : ℤ) (a : Asked) (result : Result (Unit {0}) Stop) (x x' : State) (v v' : View)
    → alone ≡ is_head q.head → asked_is a ≡ model.ask_of q.head → IsKnownToRead a q.head
    → Acts v.limits line (MayReply a (perform v.limits (shows x v) alone (asked_over (x.files 3) v (asked_is a) q.body (file_of_body q.body) moment)))
    (perform v.limits (shows x v) alone (asked_over (x.files 3) v (asked_is a) q.body (file_of_body q.body) moment)).stock result x x' v v'
    → Acts v.limits line (IsReply v.limits (shows x v) q moment) (step v.limits (shows x v) q moment).stock result x x' v v'
unfolding step
step_acts line alone q moment a result x x' v v' head asks reads acts =
    let s = shows x v in
    let at : Bool → Result model.Ask Refusal → Answer =
    λ b r. perform v.limits s b (model.decided (λ file. reference_to file s.holding.kept) v.limits s.holding.repository r q.body (file_of_body q.body) moment) in
    let is : at alone (asked_is a) ≡ step v.limits s q moment = (λ i. at (head i) (asks i)) in
    acts_more v.limits line (MayReply a (at alone (asked_is a))) (IsReply v.limits s q moment) _ _ result x x' v v'
    (may_is v.limits s q moment a (at alone (asked_is a)) reads is) (ap (λ (y : Answer). y.stock) is) acts

-- what is asked, said otherwise
module _ (line : ℕ) (alone : Bool) (body : List ℕ) (moment : ℤ) (result : Result (Unit {0}) Stop) (x x' : State) (v v' : View) where
  abbrev asked_answer : Asked → Answer
  asked_answer a = perform v.limits (shows x v) alone (asked_over (x.files 3) v (asked_is a) body (file_of_body body) moment)

  pub asked_acts : (a b : Asked) → a ≡ b → Acts v.limits line (MayReply b (asked_answer b)) (asked_answer b).stock result x x' v v' → Acts v.limits line (MayReply a (asked_answer a)) (asked_answer a).stock result x x' v v'
  asked_acts a b is acts = subst (λ (y : Asked). Acts v.limits line (MayReply y (asked_answer y)) (asked_answer y).stock result x x' v v') (sym is) acts
