-- Contents in a file of a ground: the kept ones one after the other from its beginning on, and behind them what is staged.
use Rattle.std.specs.Prelude.{◌≡◌, ◌⊎◌, ℕ, ◌+◌, ◌≤◌, List, [], ◌∷◌, ◌++◌, length, take, drop, sum_by, AllPairs, Contains, Option, None, Some, IsSomeAnd, if◌then◌else◌}
use Rattle.arti_rows.specs.declared.rows.Digests.{Digests}
use Rattle.arti_rows.specs.declared.rows.FileRef.{FileRef}
use Rattle.arti_rows.specs.Sizes.{contents_file}
use Rattle.arti_ground.specs.State.{Bytes, State, In}
use Rattle.arti_blobs.specs.declared.staging.Staging.{Staging}
use Rattle.arti_blobs.specs.declared.staging.Staged.{Staged}
use Rattle.arti_blobs.specs.Digests.{Has}

-- what contracts see: the references of the kept contents in order of keeping, and what is staged where a staging has begun
pub record Contents : Type 0 where
  pub kept : List FileRef
  pub staging : Option Staging

-- the bytes of a content in the file
abbrev pub content : List ℕ → FileRef → List ℕ
content bytes file = take file.len (drop file.place bytes)

-- where kept contents end: the sum of their lengths
abbrev pub end_of : List FileRef → ℕ
end_of kept = sum_by (λ file. file.len) kept

-- The kept ones, after some and then these references in order: each of these is a kept one as a whole, or it begins where those kept so
-- far end and is one more.
abbrev pub Keeps : List FileRef → List FileRef → List FileRef → Type 0
Keeps kept [] all = all ≡ kept
Keeps kept (file ∷ files) all = (Contains kept file × Keeps kept files all) ⊎ (¬ Contains kept file × (file.place ≡ end_of kept) × Keeps (kept ++ file ∷ []) files all)

-- a content has the length, the digests and the bytes of one
pub record IsSame (bytes : List ℕ) (wanted file : FileRef) : Type 0 where
  pub same_length : file.len ≡ wanted.len
  pub same_digests : file.digests ≡ wanted.digests
  pub same_bytes : content bytes file ≡ content bytes wanted

-- no two contents have the same bytes and the same digests
abbrev pub AllDiffer : List ℕ → List FileRef → Type 0
AllDiffer bytes kept = AllPairs (λ file other. ¬ IsSame bytes other file) kept

-- a kept content has these bytes and these digests
pub record HasPair (bytes : List ℕ) (kept : List FileRef) (wanted : List ℕ) (digests : Digests) : Type 0 where
  pub file : FileRef
  pub is_kept : Contains kept file
  pub same_bytes : content bytes file ≡ wanted
  pub same_digests : file.digests ≡ digests

-- the kept ones after a staged content was kept: one more where it was fresh
abbrev pub kept_with : List FileRef → Staged → List FileRef
kept_with kept staged = if staged.fresh then kept ++ staged.file ∷ [] else kept

-- these bytes are staged
abbrev pub Stages : Contents → List ℕ → Type 0
Stages b bytes = IsSomeAnd b.staging (λ s. Has s bytes)

-- how many bytes are staged
abbrev pub staged_length : Option Staging → ℕ
staged_length None = 0
staged_length (Some s) = s.len

-- the file has the kept contents and as many bytes behind them as are staged
abbrev pub HoldsContents : State → Contents → Type 0
HoldsContents s b = end_of b.kept + staged_length b.staging ≤ length (s.files contents_file)

-- these bytes are staged, and stand in the file behind the kept contents
pub record HoldsStaged (s : State) (b : Contents) (bytes : List ℕ) : Type 0 where
  pub staged : Stages b bytes
  pub there : take (length bytes) (drop (end_of b.kept) (s.files contents_file)) ≡ bytes

-- the file's bytes up to the end of the kept contents stay, and so do the other files
abbrev pub KeepsFront : ℕ → Bytes → Bytes → Type 0
KeepsFront end = In contents_file (λ old new. take end new ≡ take end old)

-- at a moment of a staging: as much was told as at the start, and the image is one from the start but behind the kept contents
pub record Behind (start : State) (end : ℕ) (c w : Bytes) : Type 0 where
  pub told : w ≡ start.told
  pub from : Bytes
  pub was : start.may_leave from
  pub front : KeepsFront end from c
