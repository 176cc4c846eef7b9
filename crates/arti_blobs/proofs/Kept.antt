-- What is kept of references that are read in order.
use Rattle.std.proofs.Common.{◌≡◌, inl, inr, ℕ, ◌+◌, ◌^◌, ◌<◌, ◌≤◌, List, [], ◌∷◌, ◌++◌, length, get_or, drop, refl, sym, ◌∙◌, ap, subst, arith}
use Rattle.std.specs.Prelude.{All, Contains}
use Rattle.std.proofs.lemmas.List.{drop_more, drop_all}
use Rattle.std.proofs.lemmas.List.Elements.{All-nil, All-push, All-weaker}
use Rattle.std.proofs.lemmas.List.Sums.{sum_by_push}
use Rattle.arti_rows.specs.declared.rows.FileRef.{FileRef}
use Rattle.arti_blobs.specs.Chains.{FollowsNot}
use Rattle.arti_blobs.specs.Contents.{end_of, Keeps}

pub end_push : (kept : List FileRef) (file : FileRef) → end_of (kept ++ file ∷ []) ≡ end_of kept + file.len
end_push kept file = sum_by_push (λ (f : FileRef). f.len) kept file

-- none is given up
pub keeps_grow : (files kept all : List FileRef) → Keeps kept files all → end_of kept ≤ end_of all
keeps_grow [] kept all keeps = omega (arith, ap end_of keeps)
keeps_grow (file ∷ files) kept all (inl old) = keeps_grow files kept all old.1
keeps_grow (file ∷ files) kept all (inr new) = omega (arith, keeps_grow files (kept ++ file ∷ []) all new.2, end_push kept file)

pub keeps_old : (kept : List FileRef) (file : FileRef) (files all : List FileRef) → Contains kept file → Keeps kept (file ∷ files) all → Keeps kept files all
keeps_old kept file files all is (inl old) = old.1
keeps_old kept file files all is (inr new) = absurd (new.0 is)

pub keeps_new : (kept : List FileRef) (file : FileRef) (files all : List FileRef) → (Contains kept file → ⊥) → Keeps kept (file ∷ files) all → (file.place ≡ end_of kept) × Keeps (kept ++ file ∷ []) files all
keeps_new kept file files all is_not (inl old) = absurd (is_not old.0)
keeps_new kept file files all is_not (inr new) = (new.1, new.2)

-- so many of the references were read
pub record IsIndexed (files : List FileRef) (i : ℕ) (index : List FileRef) (end : ℕ) : Type 0 where
  pub end_is : end ≡ end_of index
  pub within : All (λ (file : FileRef). file.place + file.len ≤ end) index
  pub rule : (all : List FileRef) → Keeps [] files all → Keeps index (drop i files) all

module _ (files : List FileRef) (i : ℕ) (file : FileRef) (index : List FileRef) (end : ℕ) (lt : i < length files) (is : get_or files i file ≡ file) (indexed : IsIndexed files i index end) where
  next : drop i files ≡ file ∷ drop (i + 1) files
  next = drop_more files i file lt ∙ ap (λ (f : FileRef). f ∷ drop (i + 1) files) is

  at_file : (all : List FileRef) → Keeps [] files all → Keeps index (file ∷ drop (i + 1) files) all
  at_file all keeps = subst (λ (l : List FileRef). Keeps index l all) next (indexed.rule all keeps)

  pub read_old : Contains index file → IsIndexed files (i + 1) index end
  read_old kept = record {
    end_is = indexed.end_is;
    within = indexed.within;
    rule = λ all keeps. keeps_old index file (drop (i + 1) files) all kept (at_file all keeps);
  }

  module _ (is_not : Contains index file → ⊥) (all : List FileRef) (keeps : Keeps [] files all) where
    pub room : end + file.len ≤ end_of all
    room =
        let new = keeps_new index file (drop (i + 1) files) all is_not (at_file all keeps) in
        omega (arith, keeps_grow (drop (i + 1) files) (index ++ file ∷ []) all new.1, end_push index file, indexed.end_is)

    pub read_new : IsIndexed files (i + 1) (index ++ file ∷ []) (end + file.len)
    read_new =
        let new = keeps_new index file (drop (i + 1) files) all is_not (at_file all keeps) in
        record {
          end_is = omega (arith, end_push index file, indexed.end_is);
          within = All-push (λ (f : FileRef). f.place + f.len ≤ end + file.len) index file
              (All-weaker (λ (f : FileRef). f.place + f.len ≤ end) (λ (f : FileRef). f.place + f.len ≤ end + file.len) (λ f le. omega arith) index indexed.within)
              (omega (arith, new.0, indexed.end_is));
          rule = λ others its. (keeps_new index file (drop (i + 1) files) others is_not (at_file others its)).1;
        }

  -- a new one that begins where the others end
  pub read_placed : (Contains index file → ⊥) → file.place ≡ end → IsIndexed files (i + 1) (index ++ file ∷ []) (end + file.len)
  read_placed is_not at = record {
    end_is = omega (arith, end_push index file, indexed.end_is);
    within = All-push (λ (f : FileRef). f.place + f.len ≤ end + file.len) index file
        (All-weaker (λ (f : FileRef). f.place + f.len ≤ end) (λ (f : FileRef). f.place + f.len ≤ end + file.len) (λ f le. omega arith) index indexed.within)
        (omega (arith, at));
    rule = λ others its. (keeps_new index file (drop (i + 1) files) others is_not (at_file others its)).1;
  }

  -- one that is neither kept nor begins there, or would end too far, is in no list of kept ones
  pub follows_not : FollowsNot index end file → (all : List FileRef) → Keeps [] files all → end_of all ≤ 2 ^ 62 → ⊥
  follows_not not all keeps short =
      let new = keeps_new index file (drop (i + 1) files) all not.0 (at_file all keeps) in
      not.1 (new.0 ∙ sym indexed.end_is) (omega (arith, keeps_grow (drop (i + 1) files) (index ++ file ∷ []) all new.1, end_push index file, indexed.end_is, short))

-- none was read
pub read_none : (files : List FileRef) → IsIndexed files 0 [] 0
read_none files = record { end_is = refl; within = All-nil (λ (file : FileRef). file.place + file.len ≤ 0); rule = λ all keeps. keeps }

-- all were read
pub read_all : (files index all : List FileRef) (i end : ℕ) → length files ≤ i → IsIndexed files i index end → Keeps [] files all → all ≡ index
read_all files index all i end le indexed keeps = subst (λ (l : List FileRef). Keeps index l all) (drop_all i files le) (indexed.rule all keeps)
