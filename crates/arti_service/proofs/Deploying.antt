-- That what is decided of deploys, fetches and queries is as the model decides.
use Rattle.std.proofs.Common.{◌≡◌, ℕ, ◌+◌, ℤ, Bool, true, false, cond, List, [], ◌∷◌, length, refl, sym, ap, ◌∙◌, subst}
use Rattle.std.specs.Prelude.{Result, Option, Some, None, ◌||◌, nat_lt, nat_le, codes}
use Rattle.arti_rows.specs.Key.{Key}
use Rattle.arti_rows.specs.Sizes.{most_reply}
use Rattle.arti_rows.specs.declared.limits.Limits.{Limits}
use Rattle.arti_rows.specs.declared.rows.FileRef.{FileRef}
use Rattle.arti_rows.specs.declared.rows.SomeDigests.{SomeDigests}
use Rattle.arti_rows.specs.declared.edits.Change.{Change}
use Rattle.arti_rows.specs.declared.edits.Edit.TheVariants as edits
use Rattle.arti_rows.specs.declared.refusal.Refusal.TheVariants as refusals
use Rattle.arti_ground.specs.State.{State}
use Rattle.arti_blobs.specs.Contents.{content}
use Rattle.arti_model.specs.Store.{File}
use Rattle.arti_model.specs.Apply.{Holding, apply, added_with, passes_limit}
use Rattle.arti_model.specs.Bodies.{refused, deploy_body}
use Rattle.arti_model.specs.Deploys.{given_of, mismatch, file_with}
use Rattle.arti_model.specs.Stock.{Stock, Answer, unchanged, reference_to, fills_blobs, body_length, accept}
use Rattle.arti_model.specs.Decide.{anonymous, is_barred, fetch_change}
use Rattle.arti_model.specs.Decide as model
use Rattle.arti_model.specs.Perform.{told, refusal_reply, perform}
use Rattle.arti_store.specs.Items.{file_in}
use Rattle.arti_store.specs.Store.{View, holding_of}
use Rattle.arti_service.specs.declared.answering.Stop.{Stop}
use Rattle.arti_service.specs.Acts.{ActsFor}
use Rattle.arti_service.specs.Decisions.{SameDone, decided_in, outcome}
use Rattle.arti_service.specs.Judged.{file_over}
use Rattle.arti_service.proofs.Acting.{acts_more}
use Rattle.arti_service.proofs.Changes.{deploy_length}

-- ---- answers that tell the same and leave the same

pub acts_same : (limits : Limits) (line : ℕ) (a b : Answer) (result : Result (Unit {0}) Stop) (s s' : State) (v v' : View) → outcome a ≡ outcome b → ActsFor limits line a result s s' v v' → ActsFor limits line b result s s' v v'
acts_same limits line a b result s s' v v' same acts =
    acts_more limits line (λ r. r ≡ a.reply) (λ r. r ≡ b.reply) a.stock b.stock result s s' v v' (λ r is. is ∙ ap (λ (p : Stock × List ℕ). p.1) same) (ap (λ (p : Stock × List ℕ). p.0) same) acts

pub same_as : (d e : model.Decision File) → d ≡ e → SameDone d e
same_as d e is = λ limits s alone. ap (λ (x : model.Decision File). outcome (perform limits s alone x)) is

pub same_then : (d e f : model.Decision File) → SameDone d e → e ≡ f → SameDone d f
same_then d e f same is = subst (λ (x : model.Decision File). SameDone d x) is same

-- what an acceptance leaves and tells
abbrev accepted : Limits → Stock → Holding → ℕ → List ℕ → Stock × List ℕ
accepted limits s after len reply =
    cond (fills_blobs limits s.holding.kept after.kept) (s, refused 507 (codes "Full: blobs")) (
    cond (nat_lt 67_108_864 len || nat_lt limits.journal (s.used + 5 + len)) (s, refused 507 (codes "Full: journal"))
    (record { holding = after; used = s.used + 5 + len }, reply))

parts_by : (b j : Bool) (x y z : Answer) → outcome (cond b x (cond j y z)) ≡ cond b (outcome x) (cond j (outcome y) (outcome z))
parts_by true j x y z = refl
parts_by false true x y z = refl
parts_by false false x y z = refl

accepted_is : (limits : Limits) (s : Stock) (g : FileRef → File) (c : Change) (reply : List ℕ) → outcome (accept limits s g c reply) ≡ accepted limits s (apply g c s.holding) (body_length c) reply
unfolding accept
accepted_is limits s g c reply =
    let after = apply g c s.holding in
    parts_by (fills_blobs limits s.holding.kept after.kept) (nat_lt 67_108_864 (body_length c) || nat_lt limits.journal (s.used + 5 + body_length c))
    (unchanged s (refused 507 (codes "Full: blobs"))) (unchanged s (refused 507 (codes "Full: journal")))
    (record { stock = record { holding = after; used = s.used + 5 + body_length c }; reply = reply; change = Some c })

-- two changes that do the same and are as long
change_same : (g f : FileRef → File) (c d : Change) (reply other : model.Reply File) → ((h : Holding) → apply g c h ≡ apply f d h) → body_length c ≡ body_length d → reply ≡ other
    → SameDone (model.Makes c g reply) (model.Makes d f other)
change_same g f c d reply other does len same = λ limits s alone.
    accepted_is limits s g c (told alone reply) ∙ (λ i. accepted limits s (does s.holding i) (len i) (told alone (same i))) ∙ sym (accepted_is limits s f d (told alone other))

-- ---- a deploy

module _ (v : View) (bytes : List ℕ) (moment : ℤ) (key : Key) (wanted : SomeDigests) (file : FileRef) where
  abbrev brought : File
  brought = file_in bytes file

  abbrev h : Holding
  h = holding_of bytes v

  -- the change that is committed
  abbrev pub committed : Change
  committed = record { moment = moment; user = anonymous; edits = edits.File key (given_of wanted) file [] ∷ [] }

  abbrev the_change : Change
  the_change = model.deploy_making moment key wanted (reference_to brought h.kept)

  applies : (x : Holding) → apply (file_in bytes) committed x ≡ apply (λ ref. brought) the_change x
  unfolding apply
  applies x = refl

  abbrev the_body : List ℕ
  the_body = deploy_body (model.item_making h.repository moment key wanted brought) brought

  abbrev by_room : Bool → model.Decision File
  by_room b = cond b (model.Refused (refusals.NotYet None)) (model.Makes the_change (λ ref. brought) (model.json 201 the_body))

  -- what is committed and told is what the model decides
  pub deploys : (text : List ℕ) → length (content bytes file) ≡ file.len → passes_limit v.limits h.repository.items (added_with h.repository.items key) ≡ false → text ≡ the_body
      → SameDone (model.Makes committed (file_in bytes) (model.json 201 text)) (file_over bytes v moment key wanted brought)
  deploys text whole room is =
      same_then (model.Makes committed (file_in bytes) (model.json 201 text)) (by_room false) (file_over bytes v moment key wanted brought)
      (change_same (file_in bytes) (λ ref. brought) committed the_change (model.json 201 text) (model.json 201 the_body) applies
      (deploy_length moment anonymous key (given_of wanted) file (reference_to brought h.kept) (sym whole) refl) (ap (model.json 201) is))
      (ap by_room (sym room))

  pub deploy_full : passes_limit v.limits h.repository.items (added_with h.repository.items key) ≡ true → SameDone (model.Refused (refusals.NotYet None)) (file_over bytes v moment key wanted brought)
  deploy_full full = same_as (by_room true) (file_over bytes v moment key wanted brought) (ap by_room (sym full))

  abbrev reference : File → FileRef
  reference f = reference_to f h.kept

  -- a deploy of what was sent, by what is in its way and by its digests
  pub sent_is : (body : List ℕ) (barred : Bool) (name : Option (List ℕ)) → is_barred h.repository.items key ≡ barred → mismatch wanted brought.digests ≡ name
      → cond barred (model.Refused (refusals.NotYet None)) (model.decide_sent reference v.limits h.repository moment key wanted brought name) ≡ decided_in bytes v (model.Deploy key wanted) body brought moment
  sent_is body barred name bar differs = λ i.
      cond (sym bar i) (model.Refused (refusals.NotYet None)) (model.decide_sent reference v.limits h.repository moment key wanted brought (sym differs i))

-- a deploy of what was found, by what is in its way and by what it is
pub found_is : (v : View) (bytes : List ℕ) (moment : ℤ) (key : Key) (wanted : SomeDigests) (body : List ℕ) (sent : File) (barred : Bool) (found : Option File)
    → is_barred (holding_of bytes v).repository.items key ≡ barred → file_with (λ (f : File). f.digests) wanted (holding_of bytes v).repository.items ≡ found
    → cond barred (model.Refused (refusals.NotYet None)) (model.decide_found (λ f. reference_to f (holding_of bytes v).kept) v.limits (holding_of bytes v).repository moment key wanted found)
    ≡ decided_in bytes v (model.DeployFound key wanted) body sent moment
found_is v bytes moment key wanted body sent barred found bar is = λ i.
    cond (sym bar i) (model.Refused (refusals.NotYet None)) (model.decide_found (λ f. reference_to f (holding_of bytes v).kept) v.limits (holding_of bytes v).repository moment key wanted (sym is i))

-- ---- a fetch

fetch_applies : (bytes : List ℕ) (moment : ℤ) (key : Key) (file : File) (x : Holding) → apply (file_in bytes) (fetch_change moment key) x ≡ apply (λ ref. file) (fetch_change moment key) x
unfolding apply
fetch_applies bytes moment key file x = refl

pub fetches : (bytes : List ℕ) (moment : ℤ) (key : Key) (file : FileRef) (found : Option File) → Some (file_in bytes file) ≡ found
    → SameDone (model.Makes (fetch_change moment key) (file_in bytes) (model.content_of (file_in bytes file))) (model.decide_content moment key found)
fetches bytes moment key file found is =
    same_then (model.Makes (fetch_change moment key) (file_in bytes) (model.content_of (file_in bytes file))) (model.decide_content moment key (Some (file_in bytes file))) (model.decide_content moment key found)
    (change_same (file_in bytes) (λ ref. file_in bytes file) (fetch_change moment key) (fetch_change moment key) (model.content_of (file_in bytes file)) (model.content_of (file_in bytes file)) (fetch_applies bytes moment key (file_in bytes file)) refl refl)
    (ap (model.decide_content moment key) is)

-- ---- a query

-- a text that is too long is refused
pub too_large : (text : List ℕ) → nat_le (length text) most_reply ≡ false → SameDone (model.Refused refusals.ReplyTooLarge) (model.Tells (model.json 200 text))
too_large text long = λ limits s alone.
    ap (λ (b : Bool). outcome (unchanged s (told alone (cond b (model.json 200 text) (refusal_reply refusals.ReplyTooLarge))))) (sym long)
