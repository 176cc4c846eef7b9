-- References that are tested as they are read.
use Rattle.std.proofs.Common.{◌≡◌, inl, inr, ℕ, ◌+◌, ◌^◌, ◌<◌, ◌≤◌, List, [], ◌∷◌, ◌++◌, length, get_or, take, refl, sym, ◌∙◌, ap, subst, arith}
use Rattle.std.specs.Prelude.{Contains}
use Rattle.std.proofs.lemmas.List.{take_more, take_all}
use Rattle.arti_rows.specs.declared.rows.FileRef.{FileRef}
use Rattle.arti_blobs.specs.Chains.{Adds}
use Rattle.arti_blobs.specs.Contents.{end_of, Keeps}
use Rattle.arti_blobs.proofs.Kept.{IsIndexed, read_none, read_old, read_placed}

-- one more that is kept already
keeps_then_old : (files kept all : List FileRef) (file : FileRef) → Keeps kept files all → Contains all file → Keeps kept (files ++ file ∷ []) all
keeps_then_old [] kept all file keeps is = inl (subst (λ (l : List FileRef). Contains l file) keeps is, keeps)
keeps_then_old (f ∷ files) kept all file (inl old) is = inl (old.0, keeps_then_old files kept all file old.1 is)
keeps_then_old (f ∷ files) kept all file (inr new) is = inr (new.0, new.1, keeps_then_old files (kept ++ f ∷ []) all file new.2 is)

-- one more that is new
keeps_then_new : (files kept all : List FileRef) (file : FileRef) → Keeps kept files all → (Contains all file → ⊥) → file.place ≡ end_of all → Keeps kept (files ++ file ∷ []) (all ++ file ∷ [])
keeps_then_new [] kept all file keeps is_not at =
    inr (λ is. is_not (subst (λ (l : List FileRef). Contains l file) (sym keeps) is), at ∙ ap end_of keeps, ap (λ (l : List FileRef). l ++ file ∷ []) keeps)
keeps_then_new (f ∷ files) kept all file (inl old) is_not at = inl (old.0, keeps_then_new files kept all file old.1 is_not at)
keeps_then_new (f ∷ files) kept all file (inr new) is_not at = inr (new.0, new.1, keeps_then_new files (kept ++ f ∷ []) all file new.2 is_not at)

-- so many of the references were read, and each was right
pub record IsChecked (files : List FileRef) (i : ℕ) (index : List FileRef) (end : ℕ) : Type 0 where
  pub indexed : IsIndexed files i index end
  pub keeps : Keeps [] (take i files) index
  pub short : end ≤ 2 ^ 62

pub checked_none : (files : List FileRef) → IsChecked files 0 [] 0
checked_none files = record { indexed = read_none files; keeps = refl; short = omega arith }

-- all were read
pub checked_all : (files index : List FileRef) (i end : ℕ) → length files ≤ i → IsChecked files i index end → Keeps [] files index
checked_all files index i end le checked = subst (λ (l : List FileRef). Keeps [] l index) (take_all i files le) checked.keeps

module _ (files : List FileRef) (i : ℕ) (file : FileRef) (index : List FileRef) (end : ℕ) (lt : i < length files) (is : get_or files i file ≡ file) (checked : IsChecked files i index end) where
  next : take (i + 1) files ≡ take i files ++ file ∷ []
  next = take_more files i file lt ∙ ap (λ (f : FileRef). take i files ++ f ∷ []) is

  pub checked_more : (more : List FileRef) (new_end : ℕ) → Adds index end file more new_end → IsChecked files (i + 1) more new_end
  checked_more more new_end (inl old) =
      subst (λ (l : List FileRef). IsChecked files (i + 1) l new_end) (sym old.1)
      (subst (λ (n : ℕ). IsChecked files (i + 1) index n) (sym old.2)
      (record {
        indexed = read_old files i file index end lt is checked.indexed old.0;
        keeps = subst (λ (l : List FileRef). Keeps [] l index) (sym next) (keeps_then_old (take i files) [] index file checked.keeps old.0);
        short = checked.short;
      }))
  checked_more more new_end (inr new) =
      subst (λ (l : List FileRef). IsChecked files (i + 1) l new_end) (sym new.3)
      (subst (λ (n : ℕ). IsChecked files (i + 1) (index ++ file ∷ []) n) (sym new.4)
      (record {
        indexed = read_placed files i file index end lt is checked.indexed new.0 new.1;
        keeps = subst (λ (l : List FileRef). Keeps [] l (index ++ file ∷ [])) (sym next) (keeps_then_new (take i files) [] index file checked.keeps new.0 (new.1 ∙ checked.indexed.end_is));
        short = new.2;
      }))
