-- What is settled is what is planned.
use Rattle.std.proofs.Common.{◌≡◌, ℕ, ℤ, Bool, true, false, cond, List, Option, Some, None, refl, sym, ap, subst, ◌∙◌}
use Rattle.std.specs.Prelude.{◌≢◌, ◌&&◌, not, Result, Ok, Err, option_map}
use Rattle.arti_rows.specs.Key.{Key}
use Rattle.arti_rows.specs.declared.limits.Limits.{Limits}
use Rattle.arti_rows.specs.declared.rows.FileRef.{FileRef}
use Rattle.arti_rows.specs.declared.rows.Property.{Property}
use Rattle.arti_rows.specs.declared.rows.SomeDigests.{SomeDigests}
use Rattle.arti_rows.specs.declared.edits.Change.{Change}
use Rattle.arti_rows.specs.declared.edits.Edit.{Edit}
use Rattle.arti_rows.specs.declared.edits.Edit.TheVariants as edits
use Rattle.arti_rows.specs.declared.refusal.Refusal.{Refusal}
use Rattle.arti_rows.specs.declared.refusal.Refusal.TheVariants as refusals
use Rattle.arti_rows.specs.declared.refusal.Which.TheVariants as which
use Rattle.arti_model.specs.Store.{Item}
use Rattle.arti_model.specs.Apply.{first_refusal, refused_if, refused_below, is_local, file_above, has_folder, passes_limit, added_with, put_refusal}
use Rattle.arti_model.specs.Edits.{edit_refusal}
use Rattle.arti_model.specs.Deploys.{given_of, mismatch, file_with}
use Rattle.arti_model.specs.Decide.{Reply, Decision, Refused, Tells, Makes}
use Rattle.arti_model.specs.DecideItems.{one_edit, unless, making, bars, but_full, decide_put, decide_sent, decide_found, decide_deploy, done}
use Rattle.arti_catalog.specs.Judged.{Judges}
use Rattle.arti_moves.specs.declared.ask.MoveAsk.{MoveAsk}
use Rattle.arti_moves.specs.declared.ask.MoveAsk.TheVariants as asks
use Rattle.arti_moves.specs.Moves.{by_reference, change_in, decide_content, planned, Plans, OfChange, IsAccepted, is_full, sooner, before_full, settled}

-- ---- of one change

alone : (o : Option Refusal) → first_refusal o None ≡ o
alone None = refl
alone (Some e) = refl

settles : (checked : Result (Unit {0}) Refusal) (why : Option Refusal) (change : Change) (file_of : FileRef → FileRef) (reply : Reply FileRef)
    → Judges checked why → Plans (settled checked change) (change_in (unless why (Makes change file_of reply)))
settles (Ok fine) why change file_of reply judged = ap (λ o. change_in (unless o (Makes change file_of reply))) judged
settles (Err e) why change file_of reply judged = λ other. ap (λ o. change_in (unless o (Makes change file_of reply))) (judged other)

-- what holds of the change holds of what is settled
pub settled_keeps : (P : Change → Type 0) (checked : Result (Unit {0}) Refusal) (change : Change) → P change → OfChange P (settled checked change)
settled_keeps P (Ok fine) change p = p
settled_keeps P (Err e) change p = tt

-- a change of one edit that the catalog judged
pub makes : (limits : Limits) (items : List (Item FileRef)) (moment : ℤ) (user : List ℕ) (edit : Edit) (reply : Reply FileRef) (checked : Result (Unit {0}) Refusal) (change : Change)
    → change ≡ one_edit moment user edit → Judges checked (first_refusal (edit_refusal limits edit items) None)
    → Plans (settled checked change) (change_in (making limits items moment user (λ ref. ref) edit reply))
makes limits items moment user edit reply checked change is judged =
    let why = edit_refusal limits edit items in
    let now : Judges checked why = subst (λ (o : Option Refusal). Judges checked o) (alone why) judged in
    subst (λ (c : Change). Plans (settled checked change) (change_in (unless why (Makes c (λ ref. ref) reply)))) is (settles checked why change (λ ref. ref) reply now)

-- ---- of two judgements

other_stays : (e : Refusal) → is_full e ≡ false → but_full (Some e) ≡ Some e
other_stays (refusals.Full w) clear = cc
other_stays e clear = refl

full_goes : (e : Refusal) → is_full e ≡ true → but_full (Some e) ≡ None
full_goes (refusals.Full w) full = refl
full_goes e full = cc

full_is : (e : Refusal) → is_full e ≡ true → e ≢ refusals.Memory
full_is e full is = let wrong : false ≡ true = subst (λ (r : Refusal). is_full r ≡ true) is full in cc

bars_first : (other : Option Refusal) (e : Refusal) → is_full e ≡ false → before_full other (Some e) ≡ Some e
bars_first None e clear = refl
bars_first (Some f) e clear = ap (λ o. first_refusal o (Some f)) (other_stays e clear)

both_refuse : (e f : Refusal) (b : Bool) → is_full f ≡ b → (other why : Option Refusal) → Judges (Err e) other → Judges (Err f) why
    → Judges (cond (not b) (Err f) (Err e)) (before_full other why)
both_refuse e f true full other why j k = λ ne.
    ap (λ o. before_full o why) (j ne) ∙ ap (λ o. first_refusal (but_full o) (Some e)) (k (full_is f full)) ∙ ap (λ o. first_refusal o (Some e)) (full_goes f full)
both_refuse e f false full other why j k = λ nf. ap (before_full other) (k nf) ∙ bars_first other f full

pub sooner_judges : (judged checked : Result (Unit {0}) Refusal) (other why : Option Refusal) → Judges judged other → Judges checked why
    → Judges (sooner judged checked) (before_full other why)
sooner_judges (Ok fine) checked other why j k = subst (λ (o : Option Refusal). Judges checked (before_full o why)) (sym j) k
sooner_judges (Err e) (Ok fine) other why j k = λ ne. ap (λ o. before_full o why) (j ne) ∙ ap (λ o. first_refusal (but_full o) (Some e)) k
sooner_judges (Err e) (Err f) other why j k = both_refuse e f (is_full f) refl other why j k

-- ---- deploys

-- what is decided, unless that refuses
abbrev refused_or : Option Refusal → Decision FileRef → Decision FileRef
refused_or None d = d
refused_or (Some e) d = Refused e

-- What bars a deploy goes before the other refusal, and the limit behind it.
in_turn : (a b full : Bool) (above : Option Key) (key : Key) (other : Option Refusal) (d : Decision FileRef)
    → change_in (unless (refused_if a (refusals.NoRepo key.repo) (refused_below above (refused_if b (refusals.FolderHere key) None)))
    (refused_or other (unless (refused_if a (refusals.NoRepo key.repo) (refused_below above (refused_if b (refusals.FolderHere key) (refused_if full (refusals.Full which.Items) None)))) d)))
    ≡ change_in (unless (before_full other (refused_if a (refusals.NoRepo key.repo) (refused_below above (refused_if b (refusals.FolderHere key) (refused_if full (refusals.Full which.Items) None))))) d)
in_turn true b full above key None d = refl
in_turn true b full above key (Some e) d = refl
in_turn false b full (Some k) key None d = refl
in_turn false b full (Some k) key (Some e) d = refl
in_turn false true full None key None d = refl
in_turn false true full None key (Some e) d = refl
in_turn false false true None key None d = refl
in_turn false false true None key (Some e) d = refl
in_turn false false false None key None d = refl
in_turn false false false None key (Some e) d = refl

module _ (limits : Limits) (items : List (Item FileRef)) (moment : ℤ) (user : List ℕ) (key : Key) (props : List Property) (wanted : SomeDigests) where
  abbrev put : Option Refusal
  put = put_refusal limits items key (has_folder items key) (refusals.FolderHere key)

  -- a content that comes where that other refusal doesn't
  comes : (file : FileRef) (reply : Reply FileRef) (other : Option Refusal) (checked : Result (Unit {0}) Refusal) (change : Change)
      → change ≡ one_edit moment user (edits.File key (given_of wanted) file props) → Judges checked (before_full other put)
      → Plans (settled checked change) (change_in (unless (bars items key) (refused_or other (unless put (Makes (one_edit moment user (edits.File key (given_of wanted) file props)) (λ ref. file) reply)))))
  comes file reply other checked change is judged =
      let whole = Makes (one_edit moment user (edits.File key (given_of wanted) file props)) (λ ref. file) reply in
      let turn = in_turn (not (is_local key)) (has_folder items key) (passes_limit limits items (added_with items key)) (file_above items key) key other whole in
      let now : Plans (settled checked change) (change_in (unless (before_full other put) whole)) =
      subst (λ (c : Change). Plans (settled checked change) (change_in (unless (before_full other put) (Makes c (λ ref. file) reply)))) is (settles checked (before_full other put) change (λ ref. file) reply judged) in
      subst (λ (plan : Result (Option Change) Refusal). Plans (settled checked change) plan) (sym turn) now

  sent_is : (file : FileRef) (differs : Option (List ℕ))
      → refused_or (option_map refusals.ChecksumMismatch differs) (decide_put by_reference limits items moment user key props wanted file)
      ≡ decide_sent by_reference limits items moment user key props wanted file differs
  sent_is file None = refl
  sent_is file (Some name) = refl

  pub sends : (file : FileRef) (judged checked : Result (Unit {0}) Refusal) (change : Change)
      → change ≡ one_edit moment user (edits.File key (given_of wanted) file props) → Judges judged (option_map refusals.ChecksumMismatch (mismatch wanted file.digests))
      → Judges checked (first_refusal put None)
      → Plans (settled (sooner judged checked) change) (change_in (decide_deploy by_reference limits items moment user key props wanted false file))
  sends file judged checked change is j k =
      let differs = mismatch wanted file.digests in
      let other = option_map refusals.ChecksumMismatch differs in
      let now : Judges checked put = subst (λ (o : Option Refusal). Judges checked o) (alone put) k in
      subst (λ (d : Decision FileRef). Plans (settled (sooner judged checked) change) (change_in (unless (bars items key) d))) (sent_is file differs)
      (comes file _ other (sooner judged checked) change is (sooner_judges judged checked other put j now))

  pub finds : (file : FileRef) (checked : Result (Unit {0}) Refusal) (change : Change) → change ≡ one_edit moment user (edits.File key (given_of wanted) file props)
      → Judges checked (first_refusal put None)
      → Plans (settled checked change) (change_in (unless (bars items key) (decide_found by_reference limits items moment user key props wanted (Some file))))
  finds file checked change is k =
      let now : Judges checked put = subst (λ (o : Option Refusal). Judges checked o) (alone put) k in
      comes file _ None checked change is now

  pub finds_none : (file : FileRef) (checked : Result (Unit {0}) Refusal) (change : Change) → change ≡ one_edit moment user (edits.File key (given_of wanted) file props)
      → Judges checked (first_refusal put None)
      → Plans (settled (sooner (Err refusals.NoContent) checked) change) (change_in (unless (bars items key) (decide_found by_reference limits items moment user key props wanted None)))
  finds_none file checked change is k =
      let now : Judges checked put = subst (λ (o : Option Refusal). Judges checked o) (alone put) k in
      let none : Judges (Err refusals.NoContent) (Some refusals.NoContent) = λ other. refl in
      comes file done (Some refusals.NoContent) (sooner (Err refusals.NoContent) checked) change is
      (sooner_judges (Err refusals.NoContent) checked (Some refusals.NoContent) put none now)

-- ---- a change that is made is accepted

module _ (limits : Limits) (items : List (Item FileRef)) where
  abbrev Accepts : Decision FileRef → Type 0
  Accepts d = OfChange (IsAccepted limits items) (change_in d)

  unless_accepts : (o : Option Refusal) (d : Decision FileRef) → Accepts d → Accepts (unless o d)
  unless_accepts None d ok = ok
  unless_accepts (Some why) d ok = tt

  judged_accepts : (moment : ℤ) (user : List ℕ) (file_of : FileRef → FileRef) (edit : Edit) (reply : Reply FileRef) (o : Option Refusal) → edit_refusal limits edit items ≡ o
      → Accepts (unless o (Makes (one_edit moment user edit) file_of reply))
  judged_accepts moment user file_of edit reply None e = ap (λ o. first_refusal o None) e
  judged_accepts moment user file_of edit reply (Some why) e = tt

  making_accepts : (moment : ℤ) (user : List ℕ) (file_of : FileRef → FileRef) (edit : Edit) (reply : Reply FileRef) → Accepts (making limits items moment user file_of edit reply)
  making_accepts moment user file_of edit reply = judged_accepts moment user file_of edit reply (edit_refusal limits edit items) refl

  sent_accepts : (moment : ℤ) (user : List ℕ) (key : Key) (props : List Property) (wanted : SomeDigests) (file : FileRef) (differs : Option (List ℕ))
      → Accepts (decide_sent by_reference limits items moment user key props wanted file differs)
  sent_accepts moment user key props wanted file None = making_accepts moment user (λ ref. file) (edits.File key _ _ props) _
  sent_accepts moment user key props wanted file (Some name) = tt

  found_accepts : (moment : ℤ) (user : List ℕ) (key : Key) (props : List Property) (wanted : SomeDigests) (found : Option FileRef)
      → Accepts (decide_found by_reference limits items moment user key props wanted found)
  found_accepts moment user key props wanted None = tt
  found_accepts moment user key props wanted (Some file) = making_accepts moment user (λ ref. file) (edits.File key _ _ props) _

  content_accepts : (moment : ℤ) (user : List ℕ) (key : Key) (props : List Property) (wanted : SomeDigests) (file : Option FileRef)
      → Accepts (decide_content limits items moment user key props wanted file)
  content_accepts moment user key props wanted (Some file) =
      unless_accepts (bars items key) _ (sent_accepts moment user key props wanted file (mismatch wanted file.digests))
  content_accepts moment user key props wanted None =
      unless_accepts (bars items key) _ (found_accepts moment user key props wanted (file_with by_reference.digests wanted items))

  folder_accepts : (moment : ℤ) (user : List ℕ) (key : Key) (b : Bool) (reply : Reply FileRef)
      → Accepts (cond b (Tells reply) (making limits items moment user (λ ref. ref) (edits.Folder key) reply))
  folder_accepts moment user key true reply = tt
  folder_accepts moment user key false reply = making_accepts moment user (λ ref. ref) (edits.Folder key) reply

  accepts : (moment : ℤ) (user : List ℕ) (ask : MoveAsk) → OfChange (IsAccepted limits items) (planned limits items moment user ask)
  accepts moment user (asks.Deploy key props wanted file) = content_accepts moment user key props wanted file
  accepts moment user (asks.Folder key) = folder_accepts moment user key (is_local key && has_folder items key) _
  accepts moment user (asks.Delete key) = making_accepts moment user (λ ref. ref) (edits.Remove key) _
  accepts moment user (asks.SetProps key props deep) = making_accepts moment user (λ ref. ref) (edits.SetProps key deep props) _
  accepts moment user (asks.DropProps key keys deep) = making_accepts moment user (λ ref. ref) (edits.DropProps key deep keys) _

  plans_keep : (P : Change → Type 0) (result plan : Result (Option Change) Refusal) → Plans result plan → OfChange P plan → OfChange P result
  plans_keep P (Ok made) plan is p = subst (λ (r : Result (Option Change) Refusal). OfChange P r) is p
  plans_keep P (Err why) plan is p = tt

  pub accepted_so : (moment : ℤ) (user : List ℕ) (ask : MoveAsk) (result : Result (Option Change) Refusal) → Plans result (planned limits items moment user ask)
      → OfChange (IsAccepted limits items) result
  accepted_so moment user ask result is = plans_keep (IsAccepted limits items) result (planned limits items moment user ask) is (accepts moment user ask)
