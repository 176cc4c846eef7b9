-- What a crash leaves while a journal is opened.
use Rattle.std.proofs.Common.{◌≡◌, ℕ, ◌≤◌, length, sym, ◌∙◌, ap, subst, arith, inl, ◌⊎◌, ⊎_elim, refl}
use Rattle.arti_ground.specs.State.{Bytes, State, IsDurable, Passes, OnlyReads, IsSound, SinceSync}
use Rattle.arti_ground.specs.Moments.{passes_map, since_here}
use Rattle.arti_journal.specs.Journal.{Opening}

-- a sync leaves what reads give and what was told
opening_from : (old mid : State) (file : ℕ) (c w : Bytes) → mid.files ≡ old.files → mid.told ≡ old.told → Opening mid file c w → Opening old file c w
opening_from old mid file c w files told at = record {
  told = at.told ∙ told;
  others = λ f ne. at.others f ne ∙ ap (λ (b : Bytes). b f) files;
  here = subst (λ (b : Bytes). (c file ≡ b file) ⊎ ((length (b file) ≤ 17) × (length (c file) ≤ 17))) files at.here;
}

opening_moments : (old mid new : State) (file : ℕ) → mid.files ≡ old.files → mid.told ≡ old.told → Passes mid new (Opening mid file) → Passes mid new (Opening old file)
opening_moments old mid new file files told passes = passes_map mid new (Opening mid file) (Opening old file) (λ c w at. opening_from old mid file c w files told at) passes

-- nothing was written yet
pub not_yet : (s : State) (file : ℕ) → Opening s file s.files s.told
not_yet s file = record { told = refl; others = λ f ne. refl; here = inl refl }

-- the moments since the sync, and those before it
pub opening_since : (old mid new : State) (file : ℕ) → IsSound old → OnlyReads old mid → IsSound mid → IsDurable mid → Passes mid new (Opening mid file) → SinceSync old new (Opening old file)
opening_since old mid new file first reads sound durable passes =
    since_here old mid new (Opening old file) first reads sound
    (λ c left. subst (λ (b : Bytes). Opening old file b mid.told) (sym (durable c left)) (opening_from old mid file mid.files mid.told reads.disk.files reads.told (not_yet mid file)))
    (opening_moments old mid new file reads.disk.files reads.told passes)

-- what reads give at the end of them
pub opening_now : (old mid new : State) (file : ℕ) → IsSound mid → IsSound new → IsDurable mid → mid.files ≡ old.files → mid.told ≡ old.told → Passes mid new (Opening mid file) → Opening old file new.files new.told
opening_now old mid new file sound end durable files told passes =
    ⊎_elim
    (λ was.
    let now = sound.only_now new.files new.told was in
    subst (λ (b : Bytes). Opening old file b new.told) (sym (durable new.files now.0))
    (subst (λ (b : Bytes). Opening old file mid.files b) (sym now.1) (opening_from old mid file mid.files mid.told files told (not_yet mid file))))
    (λ here. opening_from old mid file new.files new.told files told here)
    (passes.each mid.moment new.files new.told (omega arith) (end.counts_now mid.moment new.files passes.later end.stays))
