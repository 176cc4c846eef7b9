-- What is left to do for a decision.
use Rattle.std.proofs.Common.{◌≡◌, ℕ, Bool, true, false, cond, List, [], ◌++◌, refl, sym, ap, ◌∙◌, subst}
use Rattle.std.specs.Prelude.{Option, not}
use Rattle.std.proofs.lemmas.Bool.{false≢true}
use Rattle.std.proofs.lemmas.List.{append-nil}
use Rattle.arti_rows.specs.declared.refusal.Refusal.TheVariants.{ReplyTooLarge}
use Rattle.arti_blobs.specs.declared.staging.Staged.{Staged}
use Rattle.arti_model.specs.Store.{File}
use Rattle.arti_model.specs.Decide as model
use Rattle.arti_model.specs.Perform.{content_bytes, head_of, told, refusal_reply, fits, fitting, perform}
use Rattle.arti_store.specs.Store.{View}
use Rattle.arti_service.specs.declared.decision.Decision.{Decision}
use Rattle.arti_service.specs.Decisions.{Decides, decision_in, outcome}

true_of : (b : Bool) → not b ≡ false → b ≡ true
true_of true e = refl
true_of false e = absurd (false≢true (sym e))

-- a reply that isn't too large stays as it is
pub stays_fitting : (reply : model.Reply File) (large : Bool) → large ≡ not (fits reply.content) → large ≡ false → reply ≡ fitting reply
stays_fitting reply large is fits_it = ap (λ (b : Bool). cond b reply (refusal_reply ReplyTooLarge)) (sym (true_of (fits reply.content) (sym is ∙ fits_it)))

-- a head alone
pub told_alone : (reply : model.Reply File) (alone : Bool) (head body : List ℕ) → alone ≡ true → head ≡ head_of reply → body ≡ [] → head ++ body ≡ told alone reply
told_alone reply alone head body is at none = (λ i. at i ++ none i) ∙ append-nil (head_of reply) ∙ ap (λ (b : Bool). told b reply) (sym is)

-- a head and what stands behind it
pub told_whole : (reply : model.Reply File) (alone : Bool) (head body : List ℕ) → alone ≡ false → head ≡ head_of reply → body ≡ content_bytes reply.content → head ++ body ≡ told alone reply
told_whole reply alone head body is at same = (λ i. at i ++ same i) ∙ ap (λ (b : Bool). told b reply) (sym is)

-- the same decision of the model, said otherwise
pub decides_as : (v : View) (staged : Option Staged) (a b : List ℕ → model.Decision File) → ((bytes : List ℕ) → a bytes ≡ b bytes) → (d : Decision) → Decides v staged a d → Decides v staged b d
decides_as v staged a b same d is = record {
  means = λ bytes whole limits s alone. subst (λ (x : model.Decision File). outcome (perform limits s alone (decision_in bytes d)) ≡ outcome (perform limits s alone x)) (same bytes) (is.means bytes whole limits s alone);
  may = is.may;
}
