-- What files stand for when they are opened.
use Rattle.std.proofs.Common.{◌≡◌, inl, inr, ⊎_elim, ℕ, ◌+◌, ◌^◌, ◌≤◌, List, [], ◌∷◌, length, get_or, None, refl, sym, ◌∙◌, ap, subst, arith, length-append}
use Rattle.std.specs.Prelude.{All, Contains}
use Rattle.std.specs.List.{AllZip}
use Rattle.std.specs.Int.{w32, to_be_bytes}
use Rattle.std.proofs.lemmas.Bool.{false≢true}
use Rattle.std.proofs.lemmas.List.Elements.{All-nil}
use Rattle.arti_rows.specs.declared.limits.Limits.{Limits}
use Rattle.arti_rows.specs.declared.rows.FileRef.{FileRef}
use Rattle.arti_rows.specs.declared.rows.ItemRow.{ItemRow}
use Rattle.arti_rows.specs.declared.edits.Change.{Change}
use Rattle.arti_ground.specs.State.{Bytes, State, IsDurable, Passes, OnlyReads, AfterSync}
use Rattle.arti_ground.specs.Moments.{passes_map, reads_then, since_then, since_map, after_map}
use Rattle.arti_journal.specs.Journal.{IsJournal, StandsFor, HoldsJournal, Opening, header, opened_record, records, opened}
use Rattle.arti_blobs.specs.Contents.{end_of, Keeps, IsSame, AllDiffer, staged_length}
use Rattle.arti_codec.specs.ChangeBytes.{ChangeBytes}
use Rattle.arti_model.specs.Apply.{Holding}
use Rattle.arti_model.specs.Store.{Item}
use Rattle.arti_store.specs.Items.{file_in, items_of, HasFile, HasFileIn}
use Rattle.arti_store.specs.Changes.{references}
use Rattle.arti_store.specs.Replays.{itself, items_after, Replays, ReplaysNot}
use Rattle.arti_store.specs.Store.{View, holding_of, AreDistinct, Makes, Stands, HoldsOpen, Reopening}
use Rattle.arti_store.specs.ImageLaws.{content_length, each_within}
use Rattle.arti_store.proofs.References.{keeps_each}
use Rattle.arti_store.proofs.Meanings.{has_after, has_rows}
use Rattle.arti_store.proofs.Holdings.{makes_seen, makes_accepts, seen}
use Rattle.arti_store.proofs.Redoing.{zip_once}

-- ---- contents that differ

module _ (bytes : List ℕ) (files kept : List FileRef) (keeps : Keeps [] files kept) (within : end_of kept ≤ length bytes) where
  same_from_pair : (a b : FileRef) → a.place + a.len ≤ length bytes → b.place + b.len ≤ length bytes → file_in bytes a ≡ file_in bytes b → IsSame bytes b a
  same_from_pair a b la lb e = record {
    same_length = sym (content_length bytes a la) ∙ ap (λ f. length f.content) e ∙ content_length bytes b lb;
    same_digests = ap (λ f. f.digests) e;
    same_bytes = ap (λ f. f.content) e;
  }

  pub distinct_if : AllDiffer bytes kept → AreDistinct bytes kept
  distinct_if differ = λ i j d lt inside e.
      let all = each_within bytes files kept keeps within in
      differ i j d lt inside (same_from_pair (get_or kept i d) (get_or kept j d) (all i d (omega arith)) (all j d inside) e)

pub differ_if : (bytes : List ℕ) (kept : List FileRef) → AreDistinct bytes kept → AllDiffer bytes kept
differ_if bytes kept distinct = λ i j d lt inside same.
    let c = same.same_bytes in
    let g = same.same_digests in
    distinct i j d lt inside (λ k. record { content = c k; digests = g k })

-- ---- the changes of bodies

module _ (journals : (bodies others : List (List ℕ)) (bytes : List ℕ) → IsJournal bodies bytes → IsJournal others bytes → bodies ≡ others) (limits : Limits) (files : Bytes) (bodies : List (List ℕ)) (is : IsJournal bodies (files 1)) where
  its_bodies : (h : Holding) (used : ℕ) (stands : Stands limits files h used) → stands.bodies ≡ bodies
  its_bodies h used stands = journals stands.bodies bodies (files 1) stands.journal is

  pub its_changes : (h : Holding) (used : ℕ) (stands : Stands limits files h used) → AllZip ChangeBytes bodies stands.changes
  its_changes h used stands = subst (λ (l : List (List ℕ)). AllZip ChangeBytes l stands.changes) (its_bodies h used stands) stands.each

  pub not_replayed : ReplaysNot limits bodies → (h : Holding) (used : ℕ) → Stands limits files h used → ⊥
  not_replayed not h used stands =
      false≢true (sym (not stands.changes (its_changes h used stands)) ∙ makes_accepts limits stands.changes (files 3) stands.kept h stands.makes)

  pub not_contents : (items : List (Item FileRef)) (names : List FileRef) → ((bytes : List ℕ) (c d : Change) → ChangeBytes bytes c → ChangeBytes bytes d → c ≡ d) → Replays limits bodies items names
      → ((all : List FileRef) → Keeps [] names all → end_of all ≤ 2 ^ 62 → end_of all ≤ length (files 3) → AreDistinct (files 3) all → ⊥) → (h : Holding) (used : ℕ) → Stands limits files h used → ⊥
  not_contents items names one replays not h used stands =
      let same : names ≡ references stands.changes = replays.files_are ∙ ap references (zip_once one bodies replays.changes stands.changes replays.each (its_changes h used stands)) in
      not stands.kept (subst (λ (l : List FileRef). Keeps [] l stands.kept) (sym same) stands.makes.refer) stands.makes.short stands.makes.within stands.makes.distinct

-- ---- a journal that is opened

header_length : length header ≡ 16
unfolding header
header_length = refl

short_stands : (bodies : List (List ℕ)) (bytes : List ℕ) → StandsFor bodies bytes → length bytes ≤ 17 → bodies ≡ []
short_stands [] bytes stands le = refl
short_stands (b ∷ bodies) bytes stands le =
    let whole = ap length stands.whole in
    let first = opened_record b in
    absurd (omega (arith, whole, length-append (opened (b ∷ bodies)) (stands.gate ∷ stands.rest), length-append header (records (b ∷ bodies)), header_length, length-append first (records bodies), length-append (1 ∷ to_be_bytes w32 (length b)) b))

-- a moment of it stands for what the files stood for
pub reopens : (start : State) (limits : Limits) (c w : Bytes) → Opening start 1 c w → Reopening start limits c w
reopens start limits c w at = record {
  told = at.told;
  image = λ h used stands. record {
    bodies = stands.bodies;
    changes = stands.changes;
    kept = stands.kept;
    journal = ⊎_elim
        (λ same. subst (λ (b : List ℕ). IsJournal stands.bodies b) (sym same) stands.journal)
        (λ (short : (length (start.files 1) ≤ 17) × (length (c 1) ≤ 17)).
        inl (short.1, ⊎_elim (λ none. none.1) (λ journal. short_stands stands.bodies (start.files 1) journal short.0) stands.journal))
        at.here;
    each = stands.each;
    makes = subst (λ (b : List ℕ). Makes limits stands.changes b stands.kept h) (sym (at.others 3 (omega arith))) stands.makes;
    used_is = stands.used_is;
  };
}

pub journal_opened : (old mid : State) (limits : Limits) → AfterSync old mid (Opening old 1) → AfterSync old mid (Reopening old limits)
journal_opened old mid limits after = after_map old mid (Opening old 1) (Reopening old limits) (reopens old limits) after

-- and then reads
pub then_read : (old mid new : State) (limits : Limits) → AfterSync old mid (Opening old 1) → IsDurable mid → Opening old 1 mid.files mid.told → OnlyReads mid new → AfterSync old new (Reopening old limits)
then_read old mid new limits (inl since) durable now reads =
    let more : Passes mid new (Opening old 1) =
    passes_map mid new (λ c w. mid.may_leave c × (w ≡ mid.told)) (Opening old 1)
    (λ c w here. subst (λ (b : Bytes). Opening old 1 b w) (sym (durable c here.0)) (subst (λ (b : Bytes). Opening old 1 mid.files b) (sym here.1) now)) reads.time in
    inl (since_map old new (Opening old 1) (Reopening old limits) (reopens old limits) (since_then old mid new (Opening old 1) since more))
then_read old mid new limits (inr before) durable now reads = inr (reads_then old mid new before reads)

-- ---- the store that is opened

module _ (limits : Limits) (bodies : List (List ℕ)) (items : List (Item FileRef)) (names kept : List FileRef) (bytes : List ℕ) (replays : Replays limits bodies items names) (keeps : Keeps [] names kept)
    (distinct : AreDistinct bytes kept) (within : end_of kept ≤ length bytes) (short : end_of kept ≤ 2 ^ 62) (v : View) (items_are : items_of v.rows ≡ items) (kept_is : v.contents.kept ≡ kept) (limits_are : v.limits ≡ limits) where
  made : Makes limits replays.changes bytes v.contents.kept (holding_of bytes v)
  made =
      let refer : Keeps [] (references replays.changes) kept = subst (λ (l : List FileRef). Keeps [] l kept) replays.files_are keeps in
      let all = makes_seen limits replays.changes bytes kept replays.accepted refer distinct within short in
      let same : seen bytes (items_after itself replays.changes []) kept ≡ holding_of bytes v =
      ap (λ (l : List (Item FileRef)). seen bytes l kept) (sym replays.items_are ∙ sym items_are) ∙ ap (λ (l : List FileRef). seen bytes (items_of v.rows) l) (sym kept_is) in
      subst (λ (h : Holding). Makes limits replays.changes bytes v.contents.kept h) same (subst (λ (l : List FileRef). Makes limits replays.changes bytes l (seen bytes (items_after itself replays.changes []) kept)) (sym kept_is) all)

  pub opened_stands : (files : Bytes) → files 3 ≡ bytes → IsJournal bodies (files 1) → v.used ≡ length (opened bodies) + 1 → Stands limits files (holding_of (files 3) v) v.used
  opened_stands files third journal used = record {
    bodies = bodies;
    changes = replays.changes;
    kept = v.contents.kept;
    journal = journal;
    each = replays.each;
    makes = subst (λ (b : List ℕ). Makes limits replays.changes b v.contents.kept (holding_of b v)) (sym third) made;
    used_is = used;
  }

  pub opened_holds : (mid new : State) (used : ℕ) → mid.files 3 ≡ bytes → HoldsJournal mid 1 used bodies → v.used ≡ used → IsDurable mid → OnlyReads mid new → v.contents.staging ≡ None → HoldsOpen new v
  opened_holds mid new used third journal used_is durable reads staging =
      let files : new.files 3 ≡ bytes = ap (λ (b : Bytes). b 3) reads.disk.files ∙ third in
      let here : Makes v.limits replays.changes (new.files 3) v.contents.kept (holding_of (new.files 3) v) =
      subst (λ (l : Limits). Makes l replays.changes (new.files 3) v.contents.kept (holding_of (new.files 3) v)) (sym limits_are)
      (subst (λ (b : List ℕ). Makes limits replays.changes b v.contents.kept (holding_of b v)) (sym files) made) in
      record {
        bodies = bodies;
        changes = replays.changes;
        journal = record {
          reads = subst (λ (b : Bytes). StandsFor bodies (b 1)) (sym reads.disk.files) journal.reads;
          images = λ c left. journal.images c (reads.disk.images c left);
          length_is = used_is ∙ journal.length_is;
        };
        each = replays.each;
        reads = here;
        images = λ c left.
            subst (λ (b : Bytes). Makes v.limits replays.changes (b 3) v.contents.kept (holding_of (new.files 3) v)) (reads.disk.files ∙ sym (durable c (reads.disk.images c left))) here;
        contents = omega (arith, ap staged_length staging, ap end_of kept_is, within, ap length files);
      }

pub opened_durable : (mid new : State) → IsDurable mid → OnlyReads mid new → IsDurable new
opened_durable mid new durable reads = λ c left. durable c (reads.disk.images c left) ∙ sym reads.disk.files

-- the rows that are done again have their contents among the kept ones
pub opened_has : (limits : Limits) (bodies : List (List ℕ)) (rows : List ItemRow) (names kept : List FileRef) → Replays limits bodies (items_of rows) names → Keeps [] names kept → All (HasFileIn kept) rows
opened_has limits bodies rows names kept replays keeps =
    let named : All (Contains kept) (references replays.changes) = subst (λ (l : List FileRef). All (Contains kept) l) replays.files_are (keeps_each names [] kept keeps) in
    has_rows kept rows (subst (λ (l : List (Item FileRef)). All (HasFile kept) l) (sym replays.items_are) (has_after kept replays.changes [] (All-nil (HasFile kept)) named))
