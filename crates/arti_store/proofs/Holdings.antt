-- What changes make, over the bytes of the contents file.
use Rattle.std.proofs.Common.{◌≡◌, inl, inr, ℕ, ◌+◌, ◌^◌, ◌<◌, ◌≤◌, zero, suc, Bool, true, false, cond, List, [], ◌∷◌, ◌++◌, length, get_or, take, drop, length-take, Bor, Option, Some, None, refl, sym, ◌∙◌, ap, subst, arith}
use Rattle.std.specs.Prelude.{All, Contains, ◌↔◌, map, nat_eq, ◌&&◌, ◌≢◌, IfSome, option_map}
use Rattle.std.specs.List.{list_any}
use Rattle.std.specs.Option.{option_copied}
use Rattle.std.specs.Cmp.Lexicographic.{pointwise, nat_list_eq_equiv, bytes_decides}
use Rattle.std.proofs.lemmas.Bool.{and_parts, false_from_ne_true}
use Rattle.std.proofs.lemmas.List.{map-append, get_or-map, length-map, drop-take, take-take, get_or_default}
use Rattle.std.proofs.lemmas.List.Elements.{All-nil, All-cons, All-head, All-tail, All-weaker, All-map, All-contains, All-contains_itself}
use Rattle.std.proofs.lemmas.List.Folds.{list_any_none, list_any_at}
use Rattle.arti_rows.specs.Key.{Key}
use Rattle.arti_rows.specs.declared.limits.Limits.{Limits}
use Rattle.arti_rows.specs.declared.rows.Digests.{Digests}
use Rattle.arti_rows.specs.declared.rows.FileRef.{FileRef}
use Rattle.arti_rows.specs.declared.rows.ItemRow.{ItemRow}
use Rattle.arti_rows.specs.declared.edits.Edit.{Edit}
use Rattle.arti_rows.specs.declared.edits.Edit.TheVariants as edits
use Rattle.arti_rows.specs.declared.edits.Change.{Change}
use Rattle.arti_blobs.specs.Chains.{no_file}
use Rattle.arti_blobs.specs.Contents.{content, end_of, Keeps, HasPair}
use Rattle.arti_model.specs.Store.{Item, File, same_key}
use Rattle.arti_model.specs.Mapped.{item_mapped, items_mapped}
use Rattle.arti_model.specs.Laws.{edited_by_mapped}
use Rattle.arti_model.specs.Apply.{Holding, nothing_kept, same_digests, same_file, keep, keep_edited, keep_edited_by, edited_by, apply, apply_all}
use Rattle.arti_store.specs.Items.{file_in, HasFile, HasFileIn, find_row}
use Rattle.arti_store.specs.Changes.{edit_references, references_of, references}
use Rattle.arti_store.specs.Replays.{itself, items_after, are_accepted}
use Rattle.arti_store.specs.Store.{AreDistinct, Makes}
use Rattle.arti_store.specs.ImageLaws.{keeps_within}
use Rattle.arti_store.proofs.References.{keeps_front, keeps_each}
use Rattle.arti_store.proofs.Meanings.{has_after, items_after_mapped, are_accepted_mapped, accepted_if, accepted_then, items_made}

-- ---- the kept pairs

same_pair : (a b : File) → same_file a b ≡ true → a ≡ b
same_pair a b e =
    let parts = and_parts (pointwise nat_eq a.content b.content) (same_digests a.digests b.digests) e in
    let last = and_parts (pointwise nat_eq a.digests.md5 b.digests.md5 && pointwise nat_eq a.digests.sha1 b.digests.sha1) (pointwise nat_eq a.digests.sha256 b.digests.sha256) parts.1 in
    let first = and_parts (pointwise nat_eq a.digests.md5 b.digests.md5) (pointwise nat_eq a.digests.sha1 b.digests.sha1) last.0 in
    let c : a.content ≡ b.content = (bytes_decides a.content b.content).0 parts.0 in
    let m : a.digests.md5 ≡ b.digests.md5 = (bytes_decides a.digests.md5 b.digests.md5).0 first.0 in
    let s : a.digests.sha1 ≡ b.digests.sha1 = (bytes_decides a.digests.sha1 b.digests.sha1).0 first.1 in
    let h : a.digests.sha256 ≡ b.digests.sha256 = (bytes_decides a.digests.sha256 b.digests.sha256).0 last.1 in
    (λ i. record { content = c i; digests = record { md5 = m i; sha1 = s i; sha256 = h i } })

all_true : (x y z w : Bool) → x ≡ true → y ≡ true → z ≡ true → w ≡ true → (x && (y && z && w)) ≡ true
all_true x y z w ex ey ez ew =
    ap (λ b. b && (y && z && w)) ex ∙ ap (λ b. b && z && w) ey ∙ ap (λ b. b && w) ez ∙ ew

same_itself : (a : File) → same_file a a ≡ true
same_itself a = all_true _ _ _ _ (nat_list_eq_equiv.refl a.content) (nat_list_eq_equiv.refl a.digests.md5) (nat_list_eq_equiv.refl a.digests.sha1) (nat_list_eq_equiv.refl a.digests.sha256)

-- several are kept, one after the other
abbrev pub keep_all : List File → List File → List File
keep_all [] kept = kept
keep_all (file ∷ files) kept = keep_all files (keep file kept)

module _ (g : FileRef → File) where
  keep_old : (kept : List FileRef) (file : FileRef) → Contains kept file → keep (g file) (map g kept) ≡ map g kept
  keep_old kept file is =
      let at : get_or (map g kept) is.0 (g file) ≡ g file = get_or-map g kept is.0 file (g file) is.1 ∙ ap g is.2 in
      let its : list_any (same_file (g file)) (map g kept) ≡ true =
      list_any_at (same_file (g file)) (map g kept) is.0 (g file) (omega (arith, length-map kept g, is.1)) (ap (same_file (g file)) at ∙ same_itself (g file)) in
      ap (λ b. cond b (map g kept) (map g kept ++ g file ∷ [])) its

  keep_new : (kept : List FileRef) (file : FileRef) → All (λ old. g old ≢ g file) kept → keep (g file) (map g kept) ≡ map g (kept ++ file ∷ [])
  keep_new kept file others =
      let none : list_any (same_file (g file)) (map g kept) ≡ false =
      list_any_none (same_file (g file)) (map g kept)
      (All-map (λ f. same_file (g file) f ≡ false) g kept
      (All-weaker (λ old. g old ≢ g file) (λ old. same_file (g file) (g old) ≡ false) (λ old ne. false_from_ne_true (same_file (g file) (g old)) (λ e. ne (sym (same_pair (g file) (g old) e)))) kept others)) in
      ap (λ b. cond b (map g kept) (map g kept ++ g file ∷ [])) none ∙ sym (map-append g kept (file ∷ []))

  keep_all-append : (files others kept : List File) → keep_all (files ++ others) kept ≡ keep_all others (keep_all files kept)
  keep_all-append [] others kept = refl
  keep_all-append (file ∷ files) others kept = keep_all-append files others (keep file kept)

  one_kept : (edit : Edit) (kept : List File) → keep_edited g edit kept ≡ keep_all (map g (edit_references edit)) kept
  one_kept (edits.File key given file props) kept = refl
  one_kept (edits.Folder key) kept = refl
  one_kept (edits.Downloaded key) kept = refl
  one_kept (edits.Define def) kept = refl
  one_kept (edits.Remove key) kept = refl
  one_kept (edits.Move from to) kept = refl
  one_kept (edits.Copy from to) kept = refl
  one_kept (edits.SetProps key deep props) kept = refl
  one_kept (edits.DropProps key deep keys) kept = refl
  one_kept (edits.Build info) kept = refl
  one_kept (edits.Unbuild name number) kept = refl
  one_kept (edits.Promote name number row) kept = refl
  one_kept (edits.Kept file) kept = refl
  one_kept (edits.Item row) kept = refl
  one_kept (edits.Held row) kept = refl

  pub all_kept : (es : List Edit) (kept : List File) → keep_edited_by g es kept ≡ keep_all (map g (references_of es)) kept
  all_kept [] kept = refl
  all_kept (edit ∷ es) kept =
      all_kept es (keep_edited g edit kept) ∙ ap (keep_all (map g (references_of es))) (one_kept edit kept)
      ∙ sym (keep_all-append (map g (edit_references edit)) (map g (references_of es)) kept)
      ∙ ap (λ l. keep_all l kept) (sym (map-append g (edit_references edit) (references_of es)))

  pub change_kept : (change : Change) (h : Holding) → (apply g change h).kept ≡ keep_all (map g (references_of change.edits)) h.kept
  unfolding apply
  change_kept change h = all_kept change.edits h.kept

  changes_kept : (changes : List Change) (h : Holding) → (apply_all g changes h).kept ≡ keep_all (map g (references changes)) h.kept
  changes_kept [] h = refl
  changes_kept (change ∷ changes) h =
      changes_kept changes (apply g change h) ∙ ap (keep_all (map g (references changes))) (change_kept change h)
      ∙ sym (keep_all-append (map g (references_of change.edits)) (map g (references changes)) h.kept)
      ∙ ap (λ l. keep_all l h.kept) (sym (map-append g (references_of change.edits) (references changes)))

module _ (bytes : List ℕ) where
  -- the pairs that are kept are those of the kept references
  pub kept_seen : (files kept all : List FileRef) → Keeps kept files all → AreDistinct bytes all → keep_all (map (file_in bytes) files) (map (file_in bytes) kept) ≡ map (file_in bytes) all
  kept_seen [] kept all keeps distinct = ap (map (file_in bytes)) (sym keeps)
  kept_seen (file ∷ files) kept all (inl old) distinct =
      ap (keep_all (map (file_in bytes) files)) (keep_old (file_in bytes) kept file old.0) ∙ kept_seen files kept all old.1 distinct
  kept_seen (file ∷ files) kept all (inr new) distinct =
      let front = keeps_front files (kept ++ file ∷ []) all new.2 in
      ap (keep_all (map (file_in bytes) files)) (keep_new (file_in bytes) kept file (others kept front.0 (subst (AreDistinct bytes) front.1 distinct)))
      ∙ kept_seen files (kept ++ file ∷ []) all new.2 distinct
    where
      others : (xs more : List FileRef) → AreDistinct bytes ((xs ++ file ∷ []) ++ more) → All (λ old. file_in bytes old ≢ file_in bytes file) xs
      others [] more pairs = All-nil (λ old. file_in bytes old ≢ file_in bytes file)
      others (x ∷ xs) more pairs =
          All-cons (λ old. file_in bytes old ≢ file_in bytes file) x xs
          (last xs more (λ k d lt. pairs zero (suc k) d (omega arith) (omega arith)))
          (others xs more (λ i j d lt within. pairs (suc i) (suc j) d (omega arith) (omega arith)))
        where
          last : (ys rest : List FileRef) → All (λ b. file_in bytes x ≢ file_in bytes b) ((ys ++ file ∷ []) ++ rest) → file_in bytes x ≢ file_in bytes file
          last [] rest all = All-head (λ b. file_in bytes x ≢ file_in bytes b) file rest all
          last (y ∷ ys) rest all = last ys rest (All-tail (λ b. file_in bytes x ≢ file_in bytes b) y ((ys ++ file ∷ []) ++ rest) all)

  -- a holding of these items and these kept contents
  abbrev pub seen : List (Item FileRef) → List FileRef → Holding
  seen items kept = record { repository = record { items = items_mapped (file_in bytes) items }; kept = map (file_in bytes) kept }

  pub made_seen : (changes : List Change) (kept : List FileRef) → Keeps [] (references changes) kept → AreDistinct bytes kept → apply_all (file_in bytes) changes nothing_kept ≡ seen (items_after itself changes []) kept
  made_seen changes kept keeps distinct =
      let items = items_made (file_in bytes) changes nothing_kept ∙ sym (items_after_mapped (file_in bytes) itself changes []) in
      let pairs = changes_kept (file_in bytes) changes nothing_kept ∙ kept_seen (references changes) [] kept keeps distinct in
      (λ i. record { repository = record { items = items i }; kept = pairs i })

  -- one change more, of items and kept contents
  pub change_seen : (change : Change) (items : List (Item FileRef)) (kept all : List FileRef) → Keeps kept (references_of change.edits) all → AreDistinct bytes all
      → apply (file_in bytes) change (seen items kept) ≡ seen (edited_by itself change.moment change.user change.edits items) all
  change_seen change items kept all keeps distinct =
      let edited = items_made (file_in bytes) (change ∷ []) (seen items kept) ∙ sym (edited_by_mapped (file_in bytes) change.moment change.user itself change.edits items) in
      let pairs = change_kept (file_in bytes) change (seen items kept) ∙ kept_seen (references_of change.edits) kept all keeps distinct in
      (λ i. record { repository = record { items = edited i }; kept = pairs i })

-- changes that are accepted make what their items and contents are
pub makes_seen : (limits : Limits) (changes : List Change) (bytes : List ℕ) (kept : List FileRef) → are_accepted limits itself changes [] ≡ true → Keeps [] (references changes) kept
    → AreDistinct bytes kept → end_of kept ≤ length bytes → end_of kept ≤ 2 ^ 62 → Makes limits changes bytes kept (seen bytes (items_after itself changes []) kept)
makes_seen limits changes bytes kept its keeps distinct within short = record {
  accepted = accepted_if limits (file_in bytes) changes nothing_kept (are_accepted_mapped (file_in bytes) itself limits changes [] ∙ its);
  made = sym (made_seen bytes changes kept keeps distinct);
  refer = keeps;
  distinct = distinct;
  within = within;
  short = short;
}

pub makes_accepts : (limits : Limits) (changes : List Change) (bytes : List ℕ) (kept : List FileRef) (h : Holding) → Makes limits changes bytes kept h → are_accepted limits itself changes [] ≡ true
makes_accepts limits changes bytes kept h makes = sym (are_accepted_mapped (file_in bytes) itself limits changes []) ∙ accepted_then limits (file_in bytes) changes nothing_kept makes.accepted

-- rows keep their contents where more are kept
pub has_more : (kept all : List FileRef) → ((file : FileRef) → Contains kept file → Contains all file) → (rows : List ItemRow) → All (HasFileIn kept) rows → All (HasFileIn all) rows
has_more kept all more rows has = All-weaker (HasFileIn kept) (HasFileIn all) (λ row h. by row.file h) rows has
  where
    by : (file : Option FileRef) → IfSome file (Contains kept) → IfSome file (Contains all)
    by None h = tt
    by (Some file) h = more file h

-- ---- other bytes behind the kept contents

same_content : (end : ℕ) (bytes others : List ℕ) (file : FileRef) → file.place + file.len ≤ end → take end others ≡ take end bytes → content others file ≡ content bytes file
same_content end bytes others file le same =
    sym (drop-take file.place file.len others)
    ∙ ap (drop file.place) (sym (take-take (file.place + file.len) end others le) ∙ ap (take (file.place + file.len)) same ∙ take-take (file.place + file.len) end bytes le)
    ∙ drop-take file.place file.len bytes

module _ (bytes others : List ℕ) (kept : List FileRef) (same : (file : FileRef) → Contains kept file → file_in others file ≡ file_in bytes file) where
  same_item : (item : Item FileRef) → HasFile kept item → item_mapped (file_in others) item ≡ item_mapped (file_in bytes) item
  same_item item has = ap (λ (f : Option File). record (item_mapped (file_in bytes) item) { file = f }) (by item.file has)
    where
      by : (file : Option FileRef) → IfSome file (Contains kept) → option_map (file_in others) file ≡ option_map (file_in bytes) file
      by None h = refl
      by (Some file) h = ap Some (same file h)

  same_items : (items : List (Item FileRef)) → All (HasFile kept) items → items_mapped (file_in others) items ≡ items_mapped (file_in bytes) items
  same_items [] all = refl
  same_items (item ∷ items) all =
      ap (λ i. i ∷ items_mapped (file_in others) items) (same_item item (All-head (HasFile kept) item items all)) ∙ ap (λ l. item_mapped (file_in bytes) item ∷ l) (same_items items (All-tail (HasFile kept) item items all))

  same_pairs : (files : List FileRef) → All (Contains kept) files → map (file_in others) files ≡ map (file_in bytes) files
  same_pairs [] all = refl
  same_pairs (file ∷ files) all =
      ap (λ f. f ∷ map (file_in others) files) (same file (All-head (Contains kept) file files all)) ∙ ap (λ l. file_in bytes file ∷ l) (same_pairs files (All-tail (Contains kept) file files all))

  pub same_seen : (its : List (Item FileRef)) → All (HasFile kept) its → All (Contains kept) kept → seen others its kept ≡ seen bytes its kept
  same_seen its all each =
      let items = same_items its all in
      let pairs = same_pairs kept each in
      (λ i. record { repository = record { items = items i }; kept = pairs i })

  pub same_distinct : AreDistinct bytes kept → AreDistinct others kept
  same_distinct distinct = λ i j d lt within e.
      distinct i j d lt within (sym (same (get_or kept i d) (i, omega arith, get_or_default kept i (get_or kept i d) d (omega arith))) ∙ e ∙ same (get_or kept j d) (j, within, get_or_default kept j (get_or kept j d) d within))

-- the same bytes up to the end of the kept contents
module _ (bytes others : List ℕ) (files kept : List FileRef) (refer : Keeps [] files kept) (front : take (end_of kept) others ≡ take (end_of kept) bytes) where
  same_files : (file : FileRef) → Contains kept file → file_in others file ≡ file_in bytes file
  same_files file is =
      let le = All-contains (λ (f : FileRef). f.place + f.len ≤ end_of kept) kept file (keeps_within files [] kept (All-nil (λ (f : FileRef). f.place + f.len ≤ 0)) refer) is in
      ap (λ c. record { content = c; digests = file.digests }) (same_content (end_of kept) bytes others file le front)

  pub seen_stays : (items : List (Item FileRef)) → All (HasFile kept) items → seen others items kept ≡ seen bytes items kept
  seen_stays items all = same_seen bytes others kept same_files items all (All-contains_itself kept)

  pub distinct_stays : AreDistinct bytes kept → AreDistinct others kept
  distinct_stays distinct = same_distinct bytes others kept same_files distinct

-- what changes make stays
pub makes_stays : (limits : Limits) (changes : List Change) (bytes others : List ℕ) (kept : List FileRef) (h : Holding) → take (end_of kept) others ≡ take (end_of kept) bytes → Makes limits changes bytes kept h → Makes limits changes others kept h
makes_stays limits changes bytes others kept h front makes =
    let its = makes_accepts limits changes bytes kept h makes in
    let items = items_after itself changes [] in
    let has : All (HasFile kept) items = has_after kept changes [] (All-nil (HasFile kept)) (keeps_each (references changes) [] kept makes.refer) in
    let made : h ≡ seen bytes items kept = makes.made ∙ made_seen bytes changes kept makes.refer makes.distinct in
    let within : end_of kept ≤ length others = omega (arith, ap length front, length-take (end_of kept) others, length-take (end_of kept) bytes, makes.within) in
    subst (λ (x : Holding). Makes limits changes others kept x) (seen_stays bytes others (references changes) kept makes.refer front items has ∙ sym made)
    (makes_seen limits changes others kept its makes.refer (distinct_stays bytes others (references changes) kept makes.refer front makes.distinct) within makes.short)

-- what is found has its content among the kept ones
pub found_has : (kept : List FileRef) (rows : List ItemRow) (key : Key) → All (HasFileIn kept) rows → IfSome (find_row rows key) (HasFileIn kept)
found_has kept [] key all = tt
found_has kept (row ∷ rows) key all =
    by (same_key row.key key) (found_has kept rows key (All-tail (HasFileIn kept) row rows all))
  where
    by : (b : Bool) → IfSome (find_row rows key) (HasFileIn kept) → IfSome (cond b (Some row) (find_row rows key)) (HasFileIn kept)
    by true rest = All-head (HasFileIn kept) row rows all
    by false rest = rest

pub copied_has : (P : ItemRow → Type 0) (r : Option (Bor ItemRow)) → IfSome (option_copied r) P → IfSome r (λ b. P b.now)
copied_has P None h = tt
copied_has P (Some b) h = h

-- ---- a kept content that is the pair of these bytes and these digests

module _ (bytes wanted : List ℕ) (digests : Digests) where
  abbrev pair : File
  pair = record { content = wanted; digests = digests }

  pub pair_kept : (kept : List FileRef) → HasPair bytes kept wanted digests → Contains (map (file_in bytes) kept) pair
  pair_kept kept has =
      let at = has.is_kept in
      let same : file_in bytes has.file ≡ pair = (λ i. record { content = has.same_bytes i; digests = has.same_digests i }) in
      (at.0, omega (arith, length-map kept (file_in bytes), at.1), get_or-map (file_in bytes) kept at.0 has.file pair at.1 ∙ ap (file_in bytes) at.2 ∙ same)

  pub kept_pair : (kept : List FileRef) → Contains (map (file_in bytes) kept) pair → HasPair bytes kept wanted digests
  kept_pair kept (k, lt, is) =
      let within : k < length kept = omega (arith, length-map kept (file_in bytes), lt) in
      let file = get_or kept k no_file in
      let same : file_in bytes file ≡ pair = sym (get_or-map (file_in bytes) kept k no_file pair within) ∙ is in
      record {
        file = file;
        is_kept = (k, within, get_or_default kept k file no_file within);
        same_bytes = ap (λ (f : File). f.content) same;
        same_digests = ap (λ (f : File). f.digests) same;
      }

  pub pairs_are : (kept : List FileRef) (b : Bool) → (b ≡ false ↔ HasPair bytes kept wanted digests) → (b ≡ false ↔ Contains (map (file_in bytes) kept) pair)
  pairs_are kept b is = ((λ e. pair_kept kept (is.0 e)), (λ has. is.1 (kept_pair kept has)))
