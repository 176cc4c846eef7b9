-- A search from each reference to the last one before it of the same SHA-256.
use Rattle.std.proofs.Common.{◌≡◌, ◌≢◌, ⊎_elim, ℕ, ◌<◌, ◌≤◌, List, length, get_or, Option, None, Some, sym, ◌∙◌, subst, arith}
use Rattle.std.specs.Prelude.{IfSome, Contains}
use Rattle.std.proofs.lemmas.Bool.{cases_eq, cases_lt}
use Rattle.std.proofs.lemmas.List.{get_or_default}
use Rattle.arti_rows.specs.declared.rows.FileRef.{FileRef}
use Rattle.arti_blobs.specs.Chains.{no_file, sha256_at, past, IsLast}

-- where the search goes on, a reference of that SHA-256 stands
abbrev pub IsOn : List FileRef → List ℕ → Option ℕ → Type 0
IsOn kept sha256 next = IfSome next (λ i. (i < length kept) × (sha256_at kept i ≡ sha256))

-- from there on none has P
abbrev pub NoneFrom : List FileRef → (FileRef → Type 0) → Option ℕ → Type 0
NoneFrom kept P next = (j : ℕ) → j < length kept → past next ≤ j → P (get_or kept j no_file) → ⊥

module _ (kept : List FileRef) (sha256 : List ℕ) where
  pub on_next : (index : ℕ) (next : Option ℕ) → index < length kept → sha256_at kept index ≡ sha256 → IsLast kept (sha256_at kept index) index next → IsOn kept sha256 next
  on_next index None lt is last = tt
  on_next index (Some i) lt is last = (omega (arith, last.found.0), last.found.1 ∙ is)

  pub shorter : (index : ℕ) (next : Option ℕ) → IsLast kept (sha256_at kept index) index next → past next < past (Some index)
  shorter index None last = omega arith
  shorter index (Some i) last = omega (arith, last.found.0)

  module _ (P : FileRef → Type 0) (of_it : (file : FileRef) → P file → file.digests.sha256 ≡ sha256) where
    pub none_first : (next : Option ℕ) → IsLast kept sha256 (length kept) next → NoneFrom kept P next
    none_first next last j lt from has = absurd (omega (arith, last.none_later j lt (of_it (get_or kept j no_file) has)))

    pub none_next : (index : ℕ) (next : Option ℕ) → sha256_at kept index ≡ sha256 → NoneFrom kept P (Some index) → (P (get_or kept index no_file) → ⊥) → IsLast kept (sha256_at kept index) index next → NoneFrom kept P next
    none_next index next is none_later not_here last j lt from has =
        ⊎_elim
        (λ at. not_here (subst (λ (k : ℕ). P (get_or kept k no_file)) at has))
        (λ (other : j ≢ index).
        ⊎_elim
        (λ (below : j < index). absurd (omega (arith, last.none_later j below (of_it (get_or kept j no_file) has ∙ sym is))))
        (λ (above : index ≤ j). none_later j lt (omega arith) has)
        (cases_lt j index))
        (cases_eq j index)

-- a kept reference stands at an index
pub none_kept : (kept : List FileRef) (P : FileRef → Type 0) → NoneFrom kept P None → (file : FileRef) → Contains kept file → P file → ⊥
none_kept kept P none file is has =
    let at : get_or kept is.0 no_file ≡ file = get_or_default kept is.0 no_file file is.1 ∙ is.2 in
    none is.0 is.1 (omega arith) (subst P (sym at) has)
