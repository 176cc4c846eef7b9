-- A change that a request for items makes is one that is accepted.
use Rattle.std.specs.Prelude.{◌≡◌, ℕ, ℤ, Bool, true, false, not, ◌&&◌, List, [], ◌∷◌, Option, Some, None, is_some, ◌||◌, cond, refl}
use Rattle.std.proofs.Common.{ap}
use Rattle.std.proofs.lemmas.Option.{none-some}
use Rattle.arti_rows.specs.Key.{Key, same_key}
use Rattle.arti_rows.specs.declared.limits.Limits.{Limits}
use Rattle.arti_rows.specs.declared.rows.FileRef.{FileRef}
use Rattle.arti_rows.specs.declared.rows.Property.{Property}
use Rattle.arti_rows.specs.declared.rows.SomeDigests.{SomeDigests}
use Rattle.arti_rows.specs.declared.edits.Edit.{Edit}
use Rattle.arti_rows.specs.declared.edits.Edit.TheVariants as edits
use Rattle.arti_rows.specs.declared.refusal.Refusal.{Refusal}
use Rattle.arti_rows.specs.declared.refusal.Refusal.TheVariants as refusals
use Rattle.arti_model.specs.Store.{Item, is_file, find_item, has_file}
use Rattle.arti_model.specs.Apply.{is_local, refused_if, first_refusal}
use Rattle.arti_model.specs.Edits.{edit_refusal, edits_refusal}
use Rattle.arti_model.specs.Deploys.{mismatch, file_with}
use Rattle.arti_model.specs.Decide.{Reply, Decision, Refused, Tells, Makes, json}
use Rattle.arti_model.specs.DecideItems.{Looks, one_edit, unless, making, with_read, unknown, bars, decide_found, decide_sent, decide_deploy, folder_body, file_among, decide_fetched, decide_headed, decide_shown, decide_props, decide_props_named, but_full, decide_moving, decide_items, done, props_given, content_of}
use Rattle.arti_rows.specs.PropTexts.{props_of, keys_of_text}
use Rattle.arti_model.specs.declared.asks.AskRow.{AskRow}
use Rattle.arti_model.specs.declared.asks.AskRow.TheVariants as row

-- the change that is decided, if one is, is refused by nothing
abbrev pub IsAccepted : {F : Type 0} → Limits → List (Item F) → Decision F → Type 0
IsAccepted limits items (Refused why) = Unit {0}
IsAccepted limits items (Tells reply) = Unit {0}
IsAccepted limits items (Makes change file_of reply) = edits_refusal limits file_of change.moment change.user change.edits items ≡ None

module _ {F : Type 0} (limits : Limits) (items : List (Item F)) where
  unless_accepted : (o : Option Refusal) (d : Decision F) → IsAccepted limits items d → IsAccepted limits items (unless o d)
  unless_accepted None d ok = ok
  unless_accepted (Some why) d ok = tt

  read_accepted : {A : Type 0} (o : Option A) (decide : A → Decision F) → ((a : A) → IsAccepted limits items (decide a)) → IsAccepted limits items (with_read o decide)
  read_accepted None decide ok = tt
  read_accepted (Some a) decide ok = ok a

  one_accepted : (moment : ℤ) (user : List ℕ) (file_of : FileRef → F) (edit : Edit) (reply : Reply F) → edit_refusal limits edit items ≡ None
      → IsAccepted limits items (Makes (one_edit moment user edit) file_of reply)
  one_accepted moment user file_of edit reply e = ap (λ o. first_refusal o None) e

  judged_accepted : (moment : ℤ) (user : List ℕ) (file_of : FileRef → F) (edit : Edit) (reply : Reply F) (o : Option Refusal) → edit_refusal limits edit items ≡ o
      → IsAccepted limits items (unless o (Makes (one_edit moment user edit) file_of reply))
  judged_accepted moment user file_of edit reply None e = one_accepted moment user file_of edit reply e
  judged_accepted moment user file_of edit reply (Some why) e = tt

  making_accepted : (moment : ℤ) (user : List ℕ) (file_of : FileRef → F) (edit : Edit) (reply : Reply F) → IsAccepted limits items (making limits items moment user file_of edit reply)
  making_accepted moment user file_of edit reply = judged_accepted moment user file_of edit reply (edit_refusal limits edit items) refl

  -- ---- deploys and folders

  found_accepted : (looks : Looks F) (moment : ℤ) (user : List ℕ) (key : Key) (props : List Property) (wanted : SomeDigests) (o : Option F)
      → IsAccepted limits items (decide_found looks limits items moment user key props wanted o)
  found_accepted looks moment user key props wanted None = tt
  found_accepted looks moment user key props wanted (Some file) = making_accepted moment user (λ ref. file) (edits.File key _ _ props) _

  sent_accepted : (looks : Looks F) (moment : ℤ) (user : List ℕ) (key : Key) (props : List Property) (wanted : SomeDigests) (file : F) (o : Option (List ℕ))
      → IsAccepted limits items (decide_sent looks limits items moment user key props wanted file o)
  sent_accepted looks moment user key props wanted file None = making_accepted moment user (λ ref. file) (edits.File key _ _ props) _
  sent_accepted looks moment user key props wanted file (Some name) = tt

  deploy_accepted : (looks : Looks F) (moment : ℤ) (user : List ℕ) (key : Key) (props : List Property) (wanted : SomeDigests) (checksum : Bool) (sent : F)
      → IsAccepted limits items (decide_deploy looks limits items moment user key props wanted checksum sent)
  deploy_accepted looks moment user key props wanted true sent =
      unless_accepted (bars items key) _ (found_accepted looks moment user key props wanted (file_with looks.digests wanted items))
  deploy_accepted looks moment user key props wanted false sent =
      unless_accepted (bars items key) _ (sent_accepted looks moment user key props wanted sent (mismatch wanted (looks.digests sent)))

  -- ---- what is there

  is_file_some : (o : Option F) (file : F) → o ≡ Some file → is_some o ≡ true
  is_file_some o file e = ap is_some e

  found_among : (key : Key) (item : Item F) (some : List (Item F)) (b : Bool) → same_key item.key key ≡ b → (file : F)
      → file_among (cond b (Some item) (find_item some key)) ≡ Some file → (file_among (find_item some key) ≡ Some file → has_file some key ≡ true)
      → ((b && is_file item) || has_file some key) ≡ true
  found_among key item some true same file e rest = rw (is_file_some item.file file e) refl
  found_among key item some false same file e rest = rest e

  item_found : (key : Key) (some : List (Item F)) (file : F) → file_among (find_item some key) ≡ Some file → has_file some key ≡ true
  item_found key [] file e = absurd (none-some file e)
  item_found key (item ∷ some) file e = found_among key item some (same_key item.key key) refl file e (item_found key some file)

  fetched_accepted : (looks : Looks F) (moment : ℤ) (user : List ℕ) (key : Key) (o : Option F) → file_among (find_item items key) ≡ o → is_local key ≡ true
      → IsAccepted limits items (decide_fetched looks moment user key o)
  fetched_accepted looks moment user key None e l = tt
  fetched_accepted looks moment user key (Some file) e l = one_accepted moment user (λ ref. file) (edits.Downloaded key) (content_of looks file) (rw (l, item_found key items file e) refl)

  local_fetched : (looks : Looks F) (moment : ℤ) (user : List ℕ) (key : Key) (b : Bool) → is_local key ≡ b
      → IsAccepted limits items (unless (refused_if (not b) (refusals.NoRepo key.repo) None) (decide_fetched looks moment user key (file_among (find_item items key))))
  local_fetched looks moment user key true l = fetched_accepted looks moment user key (file_among (find_item items key)) refl l
  local_fetched looks moment user key false l = tt

  headed_accepted : (looks : Looks F) (key : Key) (o : Option F) → IsAccepted limits items (decide_headed looks key o)
  headed_accepted looks key None = tt
  headed_accepted looks key (Some file) = tt

  shown_accepted : (key : Key) (keys : Option (List (List ℕ))) (o : Option (Item F)) → IsAccepted limits items (decide_shown key keys o)
  shown_accepted key keys None = tt
  shown_accepted key keys (Some item) = tt

  props_accepted : (key : Key) (keys : Option (List (List ℕ))) → IsAccepted limits items (decide_props items key keys)
  props_accepted key keys = unless_accepted (unknown key) _ (shown_accepted key keys (find_item items key))

  named_accepted : (key : Key) (text : Option (List ℕ)) → IsAccepted limits items (decide_props_named items key text)
  named_accepted key None = props_accepted key None
  named_accepted key (Some text) = read_accepted (keys_of_text text) _ (λ keys. props_accepted key (Some keys))

  folder_accepted : (moment : ℤ) (user : List ℕ) (file_of : FileRef → F) (key : Key) (b : Bool)
      → IsAccepted limits items (cond b (Tells (json 201 (folder_body key))) (making limits items moment user file_of (edits.Folder key) (json 201 (folder_body key))))
  folder_accepted moment user file_of key true = tt
  folder_accepted moment user file_of key false = making_accepted moment user file_of (edits.Folder key) _

  moving_accepted : (moment : ℤ) (user : List ℕ) (file_of : FileRef → F) (edit : Edit) (dry : Bool) (message : List ℕ)
      → IsAccepted limits items (decide_moving limits items moment user file_of edit dry message)
  moving_accepted moment user file_of edit true message = unless_accepted (but_full (edit_refusal limits edit items)) _ tt
  moving_accepted moment user file_of edit false message = making_accepted moment user file_of edit _

  -- ---- all kinds

  pub items_accepted : (looks : Looks F) (moment : ℤ) (user : List ℕ) (sent : F) (ask : AskRow) (other : Decision F) → IsAccepted limits items other
      → IsAccepted limits items (decide_items looks limits items moment user sent ask other)
  items_accepted looks moment user sent (row.Deploy key props wanted checksum) other ok =
      read_accepted (props_given props) _ (λ read. deploy_accepted looks moment user key read wanted checksum sent)
  items_accepted looks moment user sent (row.Folder key) other ok = folder_accepted moment user (λ ref. sent) key _
  items_accepted looks moment user sent (row.Fetch key) other ok = local_fetched looks moment user key (is_local key) refl
  items_accepted looks moment user sent (row.Head key) other ok = unless_accepted (unknown key) _ (headed_accepted looks key (file_among (find_item items key)))
  items_accepted looks moment user sent (row.Delete key) other ok = making_accepted moment user (λ ref. sent) (edits.Remove key) done
  items_accepted looks moment user sent (row.GetProps key keys) other ok = named_accepted key keys
  items_accepted looks moment user sent (row.SetProps key props deep) other ok =
      read_accepted (props_of props) _ (λ read. making_accepted moment user (λ ref. sent) (edits.SetProps key deep read) done)
  items_accepted looks moment user sent (row.DropProps key keys deep) other ok =
      read_accepted (keys_of_text keys) _ (λ read. making_accepted moment user (λ ref. sent) (edits.DropProps key deep read) done)
  items_accepted looks moment user sent (row.Copy from to dry) other ok = moving_accepted moment user (λ ref. sent) (edits.Copy from to) dry _
  items_accepted looks moment user sent (row.Move from to dry) other ok = moving_accepted moment user (λ ref. sent) (edits.Move from to) dry _
  items_accepted looks moment user sent row.Ping other ok = tt
  items_accepted looks moment user sent ask other ok = ok
