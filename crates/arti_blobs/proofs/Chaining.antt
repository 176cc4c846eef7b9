-- One more reference in the chains.
use Rattle.std.proofs.Common.{◌≡◌, ◌≢◌, ⊎_elim, ℕ, ◌+◌, ◌<◌, ◌≤◌, Bool, true, false, cond, List, [], ◌∷◌, ◌++◌, length, get_or, Option, None, Some, refl, sym, ◌∙◌, ap, subst, arith, length-append}
use Rattle.std.proofs.Math.ListN.{get_or-append}
use Rattle.std.proofs.Math.Seq.{get_or-append_seam}
use Rattle.std.proofs.lemmas.Bool.{cases_eq}
use Rattle.std.proofs.lemmas.Bool.{false≢true}
use Rattle.std.proofs.lemmas.Map.Text.{is_eq-slice_cmp}
use Rattle.std.proofs.lemmas.Slice.Eq.{bytes_eq-Decides}
use Rattle.std.specs.Bool.{Decides}
use Rattle.std.specs.Ordering.{nat_cmp, is_eq}
use Rattle.std.specs.Cmp.Lexicographic.{slice_cmp}
use Rattle.std.specs.Map.{lookup}
use Rattle.std.specs.BTreeMap as tree
use Rattle.std.specs.BTreeMap.{BTreeMap}
use Rattle.arti_rows.specs.declared.rows.FileRef.{FileRef}
use Rattle.arti_blobs.specs.Chains.{no_file, sha256_at, IsLast, Chained}

module _ (kept : List FileRef) (file : FileRef) where
  longer : length (kept ++ file ∷ []) ≡ length kept + 1
  longer = omega (arith, length-append kept (file ∷ []))

  same : (i : ℕ) → i < length kept → sha256_at (kept ++ file ∷ []) i ≡ sha256_at kept i
  same i lt = ap (λ (f : FileRef). f.digests.sha256) (get_or-append kept (file ∷ []) no_file i lt)

  new : sha256_at (kept ++ file ∷ []) (length kept) ≡ file.digests.sha256
  new = ap (λ (f : FileRef). f.digests.sha256) (get_or-append_seam kept file [] no_file)

  -- what was the last one stays so
  stays : (sha256 : List ℕ) (n : ℕ) (last : Option ℕ) → n ≤ length kept → IsLast kept sha256 n last → IsLast (kept ++ file ∷ []) sha256 n last
  stays sha256 n None le is = record {
    found = tt;
    none_later = λ j lt e. is.none_later j lt (sym (same j (omega arith)) ∙ e);
  }
  stays sha256 n (Some i) le is = record {
    found = (is.found.0, same i (omega (arith, is.found.0)) ∙ is.found.1);
    none_later = λ j lt e. is.none_later j lt (sym (same j (omega arith)) ∙ e);
  }

  -- it stays so with the new one, whose SHA-256 is another
  goes_on : (sha256 : List ℕ) (last : Option ℕ) → file.digests.sha256 ≢ sha256 → IsLast (kept ++ file ∷ []) sha256 (length kept) last → IsLast (kept ++ file ∷ []) sha256 (length kept + 1) last
  goes_on sha256 None ne is = record {
    found = tt;
    none_later = λ j lt e.
        ⊎_elim
        (λ at. absurd (ne (sym new ∙ ap (λ (k : ℕ). sha256_at (kept ++ file ∷ []) k) (sym at) ∙ e)))
        (λ other. is.none_later j (omega arith) e)
        (cases_eq j (length kept));
  }
  goes_on sha256 (Some i) ne is = record {
    found = (omega (arith, is.found.0), is.found.1);
    none_later = λ j lt e.
        ⊎_elim
        (λ at. absurd (ne (sym new ∙ ap (λ (k : ℕ). sha256_at (kept ++ file ∷ []) k) (sym at) ∙ e)))
        (λ other. is.none_later j (omega arith) e)
        (cases_eq j (length kept));
  }

  now_last : IsLast (kept ++ file ∷ []) file.digests.sha256 (length kept + 1) (Some (length kept))
  now_last = record { found = (omega arith, new); none_later = λ j lt e. lt }

  module _ (older : List (Option ℕ)) (newest newer : BTreeMap (List ℕ) ℕ) (before : Option ℕ) (chained : Chained kept older newest) (was : before ≡ tree.get (slice_cmp nat_cmp) newest file.digests.sha256)
      (updates : tree.Updates (slice_cmp nat_cmp) newest newer file.digests.sha256 (Some (length kept))) where
    pick : (sha256 : List ℕ) (b : Bool) → Decides b (file.digests.sha256 ≡ sha256) → IsLast (kept ++ file ∷ []) sha256 (length kept + 1) (cond b (Some (length kept)) (tree.get (slice_cmp nat_cmp) newest sha256))
    pick sha256 true is = subst (λ (s : List ℕ). IsLast (kept ++ file ∷ []) s (length kept + 1) (Some (length kept))) (is.0 refl) now_last
    pick sha256 false is = goes_on sha256 _ (λ e. false≢true (is.1 e)) (stays sha256 (length kept) _ (omega arith) (chained.last sha256))

    last_one : (sha256 : List ℕ) → IsLast (kept ++ file ∷ []) sha256 (length (kept ++ file ∷ [])) (tree.get (slice_cmp nat_cmp) newer sha256)
    last_one sha256 =
        let test = is_eq (slice_cmp nat_cmp file.digests.sha256 sha256) in
        let decides : Decides test (file.digests.sha256 ≡ sha256) = subst (λ (b : Bool). Decides b (file.digests.sha256 ≡ sha256)) (sym (is_eq-slice_cmp file.digests.sha256 sha256)) (bytes_eq-Decides file.digests.sha256 sha256) in
        subst (λ (n : ℕ). IsLast (kept ++ file ∷ []) sha256 n (tree.get (slice_cmp nat_cmp) newer sha256)) (sym longer)
        (subst (IsLast (kept ++ file ∷ []) sha256 (length kept + 1)) (sym (updates.0 sha256)) (pick sha256 test decides))

    new_older : get_or (older ++ before ∷ []) (length kept) None ≡ before
    new_older = ap (λ (n : ℕ). get_or (older ++ before ∷ []) n None) (sym chained.long) ∙ get_or-append_seam older before [] None

    new_one : IsLast (kept ++ file ∷ []) (sha256_at (kept ++ file ∷ []) (length kept)) (length kept) (get_or (older ++ before ∷ []) (length kept) None)
    new_one =
        subst (IsLast (kept ++ file ∷ []) (sha256_at (kept ++ file ∷ []) (length kept)) (length kept)) (sym (new_older ∙ was))
        (subst (λ (s : List ℕ). IsLast (kept ++ file ∷ []) s (length kept) (tree.get (slice_cmp nat_cmp) newest file.digests.sha256)) (sym new)
        (stays file.digests.sha256 (length kept) _ (omega arith) (chained.last file.digests.sha256)))

    old_one : (i : ℕ) → i < length kept → IsLast (kept ++ file ∷ []) (sha256_at (kept ++ file ∷ []) i) i (get_or (older ++ before ∷ []) i None)
    old_one i lt =
        let of_older : get_or (older ++ before ∷ []) i None ≡ get_or older i None = get_or-append older (before ∷ []) None i (omega (arith, chained.long)) in
        subst (IsLast (kept ++ file ∷ []) (sha256_at (kept ++ file ∷ []) i) i) (sym of_older)
        (subst (λ (s : List ℕ). IsLast (kept ++ file ∷ []) s i (get_or older i None)) (sym (same i lt)) (stays (sha256_at kept i) i _ (omega arith) (chained.each i lt)))

    pub chained_more : Chained (kept ++ file ∷ []) (older ++ before ∷ []) newer
    chained_more = record {
      long = omega (arith, length-append older (before ∷ []), longer, chained.long);
      each = λ i lt.
          ⊎_elim
          (λ at. subst (λ (n : ℕ). IsLast (kept ++ file ∷ []) (sha256_at (kept ++ file ∷ []) n) n (get_or (older ++ before ∷ []) n None)) (sym at) new_one)
          (λ other. old_one i (omega (arith, longer)))
          (cases_eq i (length kept));
      last = last_one;
    }

-- the same lists and entries
pub chained_same : (kept others : List FileRef) (older olders : List (Option ℕ)) (newest newer : BTreeMap (List ℕ) ℕ) → others ≡ kept → olders ≡ older → newer.entries ≡ newest.entries → Chained kept older newest → Chained others olders newer
chained_same kept others older olders newest newer of_kept of_older of_newest chained =
    subst (λ (l : List FileRef). Chained l olders newer) (sym of_kept)
    (subst (λ (l : List (Option ℕ)). Chained kept l newer) (sym of_older)
    (record {
      long = chained.long;
      each = chained.each;
      last = λ sha256. subst (λ (es : List (List ℕ × ℕ)). IsLast kept sha256 (length kept) (lookup (tree.is_at (slice_cmp nat_cmp sha256)) es)) (sym of_newest) (chained.last sha256);
    }))
