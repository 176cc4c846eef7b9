-- What a change more makes, how a commit ends, and what a crash leaves while it goes on.
use Rattle.std.proofs.Common.{◌≡◌, ◌⊎◌, inl, inr, ⊎_elim, ℕ, ◌+◌, ◌^◌, ◌<◌, ◌≤◌, Bool, true, false, cond, ◌&&◌, ◌||◌, List, [], ◌∷◌, ◌++◌, length, map, get_or, Option, Some, None, refl, sym, ◌∙◌, ap, subst, arith, length-append}
use Rattle.std.specs.Prelude.{All, Contains, IsTrue, IfSome, IsSomeAnd, nat_lt}
use Rattle.std.specs.List.{AllZip}
use Rattle.std.specs.Int.{w32, to_be_bytes}
use Rattle.std.proofs.lemmas.Bool.{cases_lt}
use Rattle.std.proofs.lemmas.Bool.Decides.{nat_tests}
use Rattle.std.proofs.lemmas.List.{get_or_default, length-map}
use Rattle.std.proofs.lemmas.List.Elements.{All-head, All-tail, All-push, Contains-push, Contains-append_left}
use Rattle.std.proofs.lemmas.List.Sums.{sum_by-cons}
use Rattle.arti_rows.specs.declared.limits.Limits.{Limits}
use Rattle.arti_rows.specs.declared.rows.FileRef.{FileRef}
use Rattle.arti_rows.specs.declared.edits.Change.{Change}
use Rattle.arti_rows.specs.declared.refusal.Refusal.TheVariants.{Full}
use Rattle.arti_rows.specs.declared.refusal.Which.{Which}
use Rattle.arti_rows.specs.declared.refusal.Which.TheVariants as kinds
use Rattle.arti_ground.specs.State.{Bytes, State, Passes}
use Rattle.arti_ground.specs.Moments.{passes_map}
use Rattle.arti_journal.specs.Journal.{HoldsJournal, Appending, Appended, header, records, opened}
use Rattle.arti_blobs.specs.declared.staging.Staged.{Staged}
use Rattle.arti_blobs.specs.Contents.{Contents, content, end_of, Keeps, kept_with, staged_length}
use Rattle.arti_codec.specs.ChangeBytes as codec
use Rattle.arti_codec.specs.ChangeBytes.{HasBytes, ChangeBytes}
use Rattle.arti_model.specs.Store.{File, Item}
use Rattle.arti_model.specs.Apply.{Holding, nothing_kept, edited_by, apply, apply_all, refusal}
use Rattle.arti_model.specs.Bodies.{refused}
use Rattle.arti_model.specs.Refusals.{status_of, message_of}
use Rattle.arti_model.specs.Stock.{Stock, Answer, unchanged, kept_length, fills_blobs, body_length, most_body, fills_journal, accept}
use Rattle.arti_store.specs.Items.{file_in, items_of}
use Rattle.arti_store.specs.Changes.{references_of, references}
use Rattle.arti_store.specs.Replays.{itself}
use Rattle.arti_store.specs.Store.{View, bytes_at, file_at, holding_of, shows, judged, Accepted, AreDistinct, Makes, Stands, HoldsOpen}
use Rattle.arti_store.specs.Commit.{MayName, IsStaged, Supplies, IsAdded, AddsSome, kept_and, MayKeep, PassesBlobs, Committing}
use Rattle.arti_store.specs.ImageLaws.{end_push, content_length, contents_whole, refusal_seen}
use Rattle.arti_store.proofs.References.{keeps_then, keeps_none, keeps_one, references-push, new_not_kept, distinct_push}
use Rattle.arti_store.proofs.Holdings.{seen, change_seen}

-- ---- one change more

apply_all-push : (g : FileRef → File) (changes : List Change) (change : Change) (h : Holding) → apply_all g (changes ++ change ∷ []) h ≡ apply g change (apply_all g changes h)
apply_all-push g [] change h = refl
apply_all-push g (c ∷ changes) change h = apply_all-push g changes change (apply g c h)

accepted_push : (limits : Limits) (g : FileRef → File) (changes : List Change) (change : Change) (h : Holding) → Accepted limits g changes h → refusal limits g change (apply_all g changes h) ≡ None → Accepted limits g (changes ++ change ∷ []) h
accepted_push limits g [] change h accepted none = (none, tt)
accepted_push limits g (c ∷ changes) change h accepted none = (accepted.0, accepted_push limits g changes change (apply g c h) accepted.1 none)

pub zip_push : (bodies : List (List ℕ)) (changes : List Change) (body : List ℕ) (change : Change) → AllZip ChangeBytes bodies changes → ChangeBytes body change → AllZip ChangeBytes (bodies ++ body ∷ []) (changes ++ change ∷ [])
zip_push [] [] body change each one = (one, tt)
zip_push [] (c ∷ changes) body change each one = absurd each
zip_push (b ∷ bodies) [] body change each one = absurd each
zip_push (b ∷ bodies) (c ∷ changes) body change each one = (each.0, zip_push bodies changes body change each.1 one)

-- what is kept with the contents that a change names
pub record IsKept (bytes : List ℕ) (kept all files : List FileRef) : Type 0 where
  pub keeps : Keeps kept files all
  pub distinct : AreDistinct bytes all
  pub within : end_of all ≤ length bytes

pub makes_push : (limits : Limits) (changes : List Change) (bytes : List ℕ) (kept all : List FileRef) (h : Holding) (change : Change) → Makes limits changes bytes kept h → refusal limits (file_in bytes) change h ≡ None
    → IsKept bytes kept all (references_of change.edits) → end_of all ≤ 2 ^ 62 → Makes limits (changes ++ change ∷ []) bytes all (apply (file_in bytes) change h)
makes_push limits changes bytes kept all h change makes none more short = record {
  accepted = accepted_push limits (file_in bytes) changes change nothing_kept makes.accepted (subst (λ (x : Holding). refusal limits (file_in bytes) change x ≡ None) makes.made none);
  made = ap (apply (file_in bytes) change) makes.made ∙ sym (apply_all-push (file_in bytes) changes change nothing_kept);
  refer = subst (λ (l : List FileRef). Keeps [] l all) (sym (references-push changes change)) (keeps_then (references changes) (references_of change.edits) [] kept all makes.refer more.keeps);
  distinct = more.distinct;
  within = more.within;
  short = short;
}

-- ---- the length of a journal

records-push : (bodies : List (List ℕ)) (body : List ℕ) → length (records (bodies ++ body ∷ [])) ≡ length (records bodies) + length body + 5
records-push [] body = omega (arith, length-append (1 ∷ to_be_bytes w32 (length body) ++ body) [], length-append (1 ∷ to_be_bytes w32 (length body)) body)
records-push (b ∷ bodies) body =
    let one = 1 ∷ to_be_bytes w32 (length b) ++ b in
    omega (arith, records-push bodies body, length-append one (records bodies), length-append one (records (bodies ++ body ∷ [])))

pub length-opened : (bodies : List (List ℕ)) (body : List ℕ) → length (opened (bodies ++ body ∷ [])) ≡ length (opened bodies) + length body + 5
length-opened bodies body = omega (arith, records-push bodies body, length-append header (records bodies), length-append header (records (bodies ++ body ∷ [])))

-- ---- what is added of a staged content

some_is : (a b : Staged) → Some a ≡ Some b → a ≡ b
some_is a b e = cc

its_content : {tells : Type 0} (s : State) (contents : Contents) (files : List FileRef) (content : Option Staged) (x : Staged) → Supplies tells s contents content files → IsAdded files content x → IsStaged tells s contents.kept x
its_content {tells} s contents files content x supplies adds = subst (λ (o : Option Staged). IfSome o (IsStaged tells s contents.kept)) adds.is supplies.content

pub may_added : {tells : Type 0} (s : State) (contents : Contents) (files : List FileRef) (content added : Option Staged) → Supplies tells s contents content files → AddsSome files content added → MayKeep contents added
may_added s contents files content None supplies adds = supplies.unstaged
may_added s contents files content (Some x) supplies adds =
    let its = its_content s contents files content x supplies adds in
    (supplies.unstaged, its.place, its.short)

pub and_contains : (kept : List FileRef) (added : Option Staged) (file : FileRef) → Contains kept file → Contains (kept_and kept added) file
and_contains kept None file is = is
and_contains kept (Some x) file is = by x.fresh
  where
    by : (fresh : Bool) → Contains (cond fresh (kept ++ x.file ∷ []) kept) file
    by true = Contains-append_left kept (x.file ∷ []) file is
    by false = is

fresh_contains : (kept : List FileRef) (x : Staged) → IsTrue x.fresh → Contains (kept_with kept x) x.file
fresh_contains kept x fresh = subst (λ (b : Bool). Contains (cond b (kept ++ x.file ∷ []) kept) x.file) (sym fresh) (Contains-push kept x.file)

module _ (tells : Type 0) (s : State) (contents : Contents) (files : List FileRef) where
  one_added : (content added : Option Staged) → IfSome content (IsStaged tells s contents.kept) → AddsSome files content added → (file : FileRef) → Contains files file
      → MayName contents.kept content file → Contains (kept_and contents.kept added) file
  one_added None added is adds file named old = and_contains contents.kept added file old
  one_added (Some x) added is adds file named (inl old) = and_contains contents.kept added file old
  one_added (Some x) None is adds file named (inr same) = by x.fresh refl
    where
      by : (fresh : Bool) → x.fresh ≡ fresh → Contains contents.kept file
      by true e = absurd (adds x (record { is = refl; fresh = e; named = subst (λ (f : FileRef). Contains files f) same named }))
      by false e = subst (λ (f : FileRef). Contains contents.kept f) (sym same) (is.known e)
  one_added (Some x) (Some y) is adds file named (inr same) =
      let its : file ≡ y.file = same ∙ ap (λ (z : Staged). z.file) (some_is x y adds.is) in
      subst (λ (f : FileRef). Contains (kept_with contents.kept y) f) (sym its) (fresh_contains contents.kept y adds.fresh)

  pub names_added : (content added : Option Staged) → Supplies tells s contents content files → AddsSome files content added → All (Contains (kept_and contents.kept added)) files
  names_added content added supplies adds = λ k d lt.
      one_added content added supplies.content adds (get_or files k d) (k, lt, get_or_default files k (get_or files k d) d lt) (supplies.named k d lt)

pub none_by : (o : Option ℕ) → ((n : ℕ) → o ≡ Some n → ⊥) → o ≡ None
none_by None f = refl
none_by (Some n) f = absurd (f n refl)

-- the limit of kept bytes
abbrev pub WouldPass : ℕ → ℕ → Option Staged → Type 0
WouldPass limit end added = IsSomeAnd added (λ x. limit < end + x.file.len)

abbrev pub HasRoom : ℕ → ℕ → Option Staged → Type 0
HasRoom limit end added = IfSome added (λ x. end + x.file.len ≤ limit)

pub room_added : (limit end : ℕ) (added : Option Staged) → (WouldPass limit end added → ⊥) → HasRoom limit end added
room_added limit end None not = tt
room_added limit end (Some x) not = ⊎_elim (λ lt. absurd (not lt)) (λ le. le) (cases_lt limit (end + x.file.len))

pub passes_some : (v : View) (files : List FileRef) (content added : Option Staged) → AddsSome files content added → WouldPass v.limits.blobs (end_of v.contents.kept) added → PassesBlobs v files content
passes_some v files content None adds passes = absurd passes
passes_some v files content (Some x) adds passes = record { staged = x; added = adds; passes = passes }

pub passes_not : (v : View) (files : List FileRef) (content added : Option Staged) → AddsSome files content added → HasRoom v.limits.blobs (end_of v.contents.kept) added → PassesBlobs v files content → ⊥
passes_not v files content None adds room passes = adds passes.staged passes.added
passes_not v files content (Some x) adds room passes =
    let same : passes.staged ≡ x = some_is passes.staged x (sym passes.added.is ∙ adds.is) in
    omega (arith, room, subst (λ (y : Staged). v.limits.blobs < end_of v.contents.kept + y.file.len) same passes.passes)

-- ---- a change under the limits

lt_true : (a b : ℕ) → a < b → nat_lt a b ≡ true
lt_true a b lt = grind (arith, nat_tests, lt)

lt_false : (a b : ℕ) → b ≤ a → nat_lt a b ≡ false
lt_false a b le = grind (arith, nat_tests, le)

pub fills_true : (limits : Limits) (used : ℕ) (change : Change) → (most_body < body_length change) ⊎ (limits.journal < used + 5 + body_length change) → fills_journal limits used change ≡ true
fills_true limits used change (inl long) = ap (λ b. b || nat_lt limits.journal (used + 5 + body_length change)) (lt_true most_body (body_length change) long)
fills_true limits used change (inr past) = by (nat_lt most_body (body_length change)) (lt_true limits.journal (used + 5 + body_length change) past)
  where
    by : (b : Bool) {c : Bool} → c ≡ true → (b || c) ≡ true
    by true e = refl
    by false e = e

pub fills_false : (limits : Limits) (used : ℕ) (change : Change) → body_length change ≤ most_body → used + 5 + body_length change ≤ limits.journal → fills_journal limits used change ≡ false
fills_false limits used change fits room =
    ap (λ b. b || nat_lt limits.journal (used + 5 + body_length change)) (lt_false most_body (body_length change) fits) ∙ lt_false limits.journal (used + 5 + body_length change) room

kept_ends : (bytes : List ℕ) (kept : List FileRef) → All (λ (file : FileRef). length (content bytes file) ≡ file.len) kept → kept_length (map (file_in bytes) kept) ≡ end_of kept
kept_ends bytes [] whole = refl
kept_ends bytes (x ∷ kept) whole =
    let here = All-head (λ (file : FileRef). length (content bytes file) ≡ file.len) x kept whole in
    let rest = kept_ends bytes kept (All-tail (λ (file : FileRef). length (content bytes file) ≡ file.len) x kept whole) in
    sum_by-cons (λ (f : File). length f.content) (file_in bytes x) (map (file_in bytes) kept) ∙ (λ i. here i + rest i) ∙ sym (sum_by-cons (λ (f : FileRef). f.len) x kept)

module _ (s : State) (v : View) (change : Change) (content added : Option Staged) (holds : HoldsOpen s v) (supplies : Supplies (Unit {0}) s v.contents content (references_of change.edits))
    (adds : AddsSome (references_of change.edits) content added) where
  abbrev kept : List FileRef
  kept = v.contents.kept

  abbrev pub all : List FileRef
  all = kept_and kept added

  abbrev files : List FileRef
  files = references_of change.edits

  kept_by : (o : Option Staged) → AddsSome files content o → All (Contains (kept_and kept o)) files → IsKept (s.files 3) kept (kept_and kept o) files
  kept_by None none named = record { keeps = keeps_none files kept named; distinct = holds.reads.distinct; within = holds.reads.within }
  kept_by (Some x) one named =
      let its = its_content s v.contents files content x supplies one in
      let more : kept_with kept x ≡ kept ++ x.file ∷ [] = ap (λ b. cond b (kept ++ x.file ∷ []) kept) one.fresh in
      let new = its.new tt one.fresh in
      subst (λ (l : List FileRef). IsKept (s.files 3) kept l files) (sym more) (record {
        keeps = keeps_one files kept x.file (subst (λ (l : List FileRef). All (Contains l) files) more named) one.named (new_not_kept (s.files 3) kept x.file new) (its.place one.fresh);
        distinct = distinct_push (s.files 3) kept x.file new holds.reads.distinct;
        within = omega (arith, end_push kept x.file, its.whole tt one.fresh);
      })

  pub is_kept : IsKept (s.files 3) kept all files
  is_kept = kept_by added adds (names_added (Unit {0}) s v.contents files content added supplies adds)

  all_short : (o : Option Staged) → AddsSome files content o → HasRoom v.limits.blobs (end_of kept) o → end_of (kept_and kept o) ≤ 2 ^ 62
  all_short None none room = holds.reads.short
  all_short (Some x) one room =
      omega (arith, ap (λ (b : Bool). end_of (cond b (kept ++ x.file ∷ []) kept)) one.fresh, end_push kept x.file, room, v.limits.within.blobs_fit)

  abbrev before : Stock
  before = shows s v

  abbrev after : Holding
  after = apply (file_at s) change before.holding

  after_seen : after ≡ seen (s.files 3) (edited_by itself change.moment change.user change.edits (items_of v.rows)) all
  after_seen = change_seen (s.files 3) change (items_of v.rows) kept all is_kept.keeps is_kept.distinct

  -- the limit is passed as the kept files say
  abbrev fills : Option Staged → Bool
  fills None = false
  fills (Some x) = nat_lt v.limits.blobs (end_of kept + x.file.len)

  fills_by : (o : Option Staged) → AddsSome files content o → fills_blobs v.limits before.holding.kept (map (file_at s) (kept_and kept o)) ≡ fills o
  fills_by None none = ap (λ b. b && nat_lt v.limits.blobs (kept_length before.holding.kept)) (lt_false (length before.holding.kept) (length before.holding.kept) (omega arith))
  fills_by (Some x) one =
      let its = its_content s v.contents files content x supplies one in
      let P : FileRef → Type 0 = λ file. length (bytes_at s file) ≡ file.len in
      let here : P x.file = content_length (s.files 3) x.file (omega (arith, its.place one.fresh, its.whole tt one.fresh)) in
      let more : kept_with kept x ≡ kept ++ x.file ∷ [] = ap (λ b. cond b (kept ++ x.file ∷ []) kept) one.fresh in
      let longer : nat_lt (length before.holding.kept) (length (map (file_at s) (kept ++ x.file ∷ []))) ≡ true =
      lt_true _ _ (omega (arith, length-map kept (file_at s), length-map (kept ++ x.file ∷ []) (file_at s), length-append kept (x.file ∷ []))) in
      let sum : kept_length (map (file_at s) (kept ++ x.file ∷ [])) ≡ end_of kept + x.file.len =
      kept_ends (s.files 3) (kept ++ x.file ∷ []) (All-push P kept x.file (contents_whole s v holds) here) ∙ end_push kept x.file in
      ap (λ (l : List FileRef). fills_blobs v.limits before.holding.kept (map (file_at s) l)) more
      ∙ ap (λ b. b && nat_lt v.limits.blobs (kept_length (map (file_at s) (kept ++ x.file ∷ [])))) longer
      ∙ ap (nat_lt v.limits.blobs) sum

  blobs_are : fills_blobs v.limits before.holding.kept after.kept ≡ fills added
  blobs_are = ap (λ (h : Holding). fills_blobs v.limits before.holding.kept h.kept) after_seen ∙ fills_by added adds

  fills_not : (o : Option Staged) → HasRoom v.limits.blobs (end_of kept) o → fills o ≡ false
  fills_not None room = refl
  fills_not (Some x) room = lt_false v.limits.blobs (end_of kept + x.file.len) room

  fills_all : (o : Option Staged) → WouldPass v.limits.blobs (end_of kept) o → fills o ≡ true
  fills_all None passes = absurd passes
  fills_all (Some x) passes = lt_true v.limits.blobs (end_of kept + x.file.len) passes

  module _ (reply : List ℕ) where
    abbrev pub answer : Answer
    answer = accept v.limits before (file_at s) change reply

    abbrev done : Answer
    done = record { stock = record { holding = after; used = v.used + 5 + body_length change }; reply = reply; change = Some change }

    abbrev full : Which → Answer
    full which = unchanged before (refused (status_of (Full which)) (message_of (Full which)))

    pub full_blobs : WouldPass v.limits.blobs (end_of kept) added → answer ≡ full kinds.Blobs
    unfolding accept
    full_blobs passes = ap (λ (b : Bool). cond b (full kinds.Blobs) (cond (fills_journal v.limits v.used change) (full kinds.Journal) done)) (blobs_are ∙ fills_all added passes)

    module _ (room : HasRoom v.limits.blobs (end_of kept) added) where
      pub full_journal : fills_journal v.limits v.used change ≡ true → answer ≡ full kinds.Journal
      unfolding accept
      full_journal journal =
          ap (λ (b : Bool). cond b (full kinds.Blobs) (cond (fills_journal v.limits v.used change) (full kinds.Journal) done)) (blobs_are ∙ fills_not added room)
          ∙ ap (λ (b : Bool). cond b (full kinds.Journal) done) journal

      pub is_done : fills_journal v.limits v.used change ≡ false → answer ≡ done
      unfolding accept
      is_done journal =
          ap (λ (b : Bool). cond b (full kinds.Blobs) (cond (fills_journal v.limits v.used change) (full kinds.Journal) done)) (blobs_are ∙ fills_not added room)
          ∙ ap (λ (b : Bool). cond b (full kinds.Journal) done) journal

  -- ---- what it leaves

  module _ (end : State) (has : HasBytes change) (none : judged v change ≡ None) (room : HasRoom v.limits.blobs (end_of kept) added) (journal : fills_journal v.limits v.used change ≡ false) where
    abbrev body : List ℕ
    body = codec.change.spell change

    abbrev longer : ℕ
    longer = v.used + 5 + body_length change

    used_then : longer ≡ length (opened (holds.bodies ++ body ∷ [])) + 1
    used_then = omega (arith, length-opened holds.bodies body, holds.journal.length_is)

    made : Makes v.limits (holds.changes ++ change ∷ []) (s.files 3) all after
    made =
        makes_push v.limits holds.changes (s.files 3) kept all before.holding change holds.reads (refusal_seen (s.files 3) v change ∙ none) is_kept
        (all_short added adds room)

    each : AllZip ChangeBytes (holds.bodies ++ body ∷ []) (holds.changes ++ change ∷ [])
    each = zip_push holds.bodies holds.changes body change holds.each (has, refl)

    moment_of : (reply : List ℕ) (c w : Bytes) → Appending s 1 holds.bodies body c w → Committing s v.limits before (answer reply).stock c w
    moment_of reply c w at = record {
      told = at.told;
      image = ⊎_elim
          (λ was. inl (record {
            bodies = holds.bodies;
            changes = holds.changes;
            kept = kept;
            journal = inr was.stands;
            each = holds.each;
            makes = subst (λ (b : List ℕ). Makes v.limits holds.changes b kept before.holding) (sym (was.others 3 (omega arith))) (holds.images was.from was.was);
            used_is = holds.journal.length_is;
          }))
          (λ now. inr (subst (λ (a : Answer). Stands v.limits c a.stock.holding a.stock.used) (sym (is_done reply room journal)) (record {
            bodies = holds.bodies ++ body ∷ [];
            changes = holds.changes ++ change ∷ [];
            kept = all;
            journal = inr now.stands;
            each = each;
            makes = subst (λ (b : List ℕ). Makes v.limits (holds.changes ++ change ∷ []) b all after) (sym (now.others 3 (omega arith))) made;
            used_is = used_then;
          })))
          at.image;
    }

    -- the journal that is written is the store's
    module _ (file used : ℕ) (file_is : file ≡ 1) (used_is : used ≡ v.used) where
      journal_held : HoldsJournal s file used holds.bodies
      journal_held = subst (λ (n : ℕ). HoldsJournal s n used holds.bodies) (sym file_is) (subst (λ (n : ℕ). HoldsJournal s 1 n holds.bodies) (sym used_is) holds.journal)

      pub moments_of : ((bodies : List (List ℕ)) → HoldsJournal s file used bodies → Passes s end (Appending s file bodies body)) → (reply : List ℕ)
          → Passes s end (Committing s v.limits before (answer reply).stock)
      moments_of written = λ reply.
          passes_map s end (Appending s 1 holds.bodies body) (Committing s v.limits before (answer reply).stock) (moment_of reply)
          (subst (λ (n : ℕ). Passes s end (Appending s n holds.bodies body)) file_is (written holds.bodies journal_held))

      pub appended_of : ((bodies : List (List ℕ)) → HoldsJournal s file used bodies → Appended s end file used bodies body) → Appended s end 1 v.used holds.bodies body
      appended_of written =
          subst (λ (n : ℕ). Appended s end n v.used holds.bodies body) file_is (subst (λ (n : ℕ). Appended s end file n holds.bodies body) used_is (written holds.bodies journal_held))

    module _ (next : View) (items_are : items_of next.rows ≡ edited_by itself change.moment change.user change.edits (items_of v.rows)) (kept_are : next.contents.kept ≡ all)
        (staging : next.contents.staging ≡ None) (limits : next.limits ≡ v.limits) (used : next.used ≡ longer) (appended : Appended s end 1 v.used holds.bodies body) where
      third : end.files 3 ≡ s.files 3
      third = appended.others 3 (omega arith)

      holding_then : holding_of (end.files 3) next ≡ after
      holding_then =
          ap (λ (b : List ℕ). holding_of b next) third
          ∙ ap (λ (l : List (Item FileRef)). seen (s.files 3) l next.contents.kept) items_are
          ∙ ap (λ (l : List FileRef). seen (s.files 3) (edited_by itself change.moment change.user change.edits (items_of v.rows)) l) kept_are
          ∙ sym after_seen

      pub ends_done : (reply : List ℕ) → answer reply ≡ record { stock = shows end next; reply = reply; change = Some change }
      ends_done reply = is_done reply room journal ∙ (λ i. record { stock = record { holding = sym holding_then i; used = sym used i }; reply = reply; change = Some change })

      made_then : Makes next.limits (holds.changes ++ change ∷ []) (end.files 3) next.contents.kept (holding_of (end.files 3) next)
      made_then =
          subst (λ (h : Holding). Makes next.limits (holds.changes ++ change ∷ []) (end.files 3) next.contents.kept h) (sym holding_then)
          (subst (λ (l : Limits). Makes l (holds.changes ++ change ∷ []) (end.files 3) next.contents.kept after) (sym limits)
          (subst (λ (l : List FileRef). Makes v.limits (holds.changes ++ change ∷ []) (end.files 3) l after) (sym kept_are)
          (subst (λ (b : List ℕ). Makes v.limits (holds.changes ++ change ∷ []) b all after) (sym third) made)))

      pub holds_then : HoldsOpen end next
      holds_then = record {
        bodies = holds.bodies ++ body ∷ [];
        changes = holds.changes ++ change ∷ [];
        journal = subst (λ (n : ℕ). HoldsJournal end 1 n (holds.bodies ++ body ∷ [])) (sym used) appended.journal;
        each = each;
        reads = made_then;
        images = λ c left. subst (λ (b : Bytes). Makes next.limits (holds.changes ++ change ∷ []) (b 3) next.contents.kept (holding_of (end.files 3) next)) (sym (appended.durable c left)) made_then;
        contents = omega (arith, ap staged_length staging, ap end_of kept_are, is_kept.within, ap length third);
      }
