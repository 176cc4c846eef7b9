-- A search among the references before one, from each to the last one before it of the same SHA-256.
use Rattle.std.proofs.Common.{◌≡◌, ◌≢◌, ⊎_elim, ℕ, ◌<◌, ◌≤◌, List, length, get_or, Option, None, Some, sym, ◌∙◌, subst, arith}
use Rattle.std.specs.Prelude.{IfSome}
use Rattle.std.proofs.lemmas.Bool.{cases_eq, cases_lt}
use Rattle.std.proofs.lemmas.List.{get_or_default}
use Rattle.arti_rows.specs.declared.rows.FileRef.{FileRef}
use Rattle.arti_blobs.specs.Chains.{no_file, sha256_at, past, IsLast, HasEarlier}
use Rattle.arti_blobs.specs.Contents.{IsSame, AllDiffer}

-- where the search goes on, a reference of that SHA-256 stands before the one at n
abbrev pub IsBelow : List FileRef → List ℕ → ℕ → Option ℕ → Type 0
IsBelow kept sha256 n next = IfSome next (λ i. (i < n) × (sha256_at kept i ≡ sha256))

-- from there on none before n has P
abbrev pub NoneBelow : List FileRef → (FileRef → Type 0) → ℕ → Option ℕ → Type 0
NoneBelow kept P n next = (j : ℕ) → j < n → past next ≤ j → P (get_or kept j no_file) → ⊥

module _ (kept : List FileRef) (sha256 : List ℕ) (n : ℕ) where
  pub first_below : (next : Option ℕ) → IsLast kept sha256 n next → IsBelow kept sha256 n next
  first_below None last = tt
  first_below (Some i) last = last.found

  pub next_below : (index : ℕ) (next : Option ℕ) → index < n → sha256_at kept index ≡ sha256 → IsLast kept (sha256_at kept index) index next → IsBelow kept sha256 n next
  next_below index None lt is last = tt
  next_below index (Some i) lt is last = (omega (arith, last.found.0), last.found.1 ∙ is)

  module _ (P : FileRef → Type 0) (of_it : (file : FileRef) → P file → file.digests.sha256 ≡ sha256) where
    pub none_first_below : (next : Option ℕ) → IsLast kept sha256 n next → NoneBelow kept P n next
    none_first_below next last j lt from has = absurd (omega (arith, last.none_later j lt (of_it (get_or kept j no_file) has)))

    pub none_next_below : (index : ℕ) (next : Option ℕ) → sha256_at kept index ≡ sha256 → NoneBelow kept P n (Some index) → (P (get_or kept index no_file) → ⊥) → IsLast kept (sha256_at kept index) index next → NoneBelow kept P n next
    none_next_below index next is none_later not_here last j lt from has =
        ⊎_elim
        (λ at. not_here (subst (λ (k : ℕ). P (get_or kept k no_file)) at has))
        (λ (other : j ≢ index).
        ⊎_elim
        (λ (below : j < index). absurd (omega (arith, last.none_later j below (of_it (get_or kept j no_file) has ∙ sym is))))
        (λ (above : index ≤ j). none_later j lt (omega arith) has)
        (cases_lt j index))
        (cases_eq j index)

module _ (bytes : List ℕ) (kept : List FileRef) where
  -- so far none has the same as one before it
  pub differ_all : ((at : ℕ) → at < length kept → HasEarlier bytes kept at → ⊥) → AllDiffer bytes kept
  differ_all none i j d lt le same =
      let at : get_or kept j no_file ≡ get_or kept j d = get_or_default kept j no_file d le in
      let earlier : get_or kept i no_file ≡ get_or kept i d = get_or_default kept i no_file d (omega arith) in
      none j le (record {
        earlier = i;
        before = lt;
        same = subst (λ (f : FileRef). IsSame bytes (get_or kept j no_file) f) (sym earlier) (subst (λ (f : FileRef). IsSame bytes f (get_or kept i d)) (sym at) same);
      })

  pub differ_not : (at : ℕ) → at < length kept → HasEarlier bytes kept at → AllDiffer bytes kept → ⊥
  differ_not at lt has differ = differ has.earlier at no_file has.before lt has.same
