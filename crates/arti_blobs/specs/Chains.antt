-- How the kept contents of one SHA-256 are found, each from the next one that was kept.
use Rattle.std.specs.Prelude.{◌≡◌, ◌⊎◌, ℕ, ◌+◌, ◌^◌, ◌<◌, ◌≤◌, List, [], ◌∷◌, ◌++◌, length, slice_index_or, Option, None, Some, IfSome, Contains}
use Rattle.std.specs.Ordering.{nat_cmp}
use Rattle.std.specs.Cmp.Lexicographic.{slice_cmp}
use Rattle.std.specs.BTreeMap as tree
use Rattle.std.specs.BTreeMap.{BTreeMap}
use Rattle.arti_rows.specs.declared.rows.FileRef.{FileRef}
use Rattle.arti_blobs.specs.Contents.{IsSame}

-- stands for a reference past the end
abbrev pub no_file : FileRef
no_file = record { place = 0; len = 0; digests = record { md5 = []; sha1 = []; sha256 = [] } }

-- the SHA-256 of the reference at an index
abbrev pub sha256_at : List FileRef → ℕ → List ℕ
sha256_at kept i = (slice_index_or kept i no_file).digests.sha256

-- one more than an index, or none
abbrev pub past : Option ℕ → ℕ
past None = 0
past (Some i) = i + 1

-- the last index below n at which the SHA-256 is this one
pub record IsLast (kept : List FileRef) (sha256 : List ℕ) (n : ℕ) (last : Option ℕ) : Type 0 where
  pub found : IfSome last (λ i. (i < n) × (sha256_at kept i ≡ sha256))
  pub none_later : (j : ℕ) → j < n → sha256_at kept j ≡ sha256 → j < past last

-- each reference has the last one before it of its SHA-256, and each SHA-256 has its last one
pub record Chained (kept : List FileRef) (older : List (Option ℕ)) (newest : BTreeMap (List ℕ) ℕ) : Type 0 where
  pub long : length older ≡ length kept
  pub each : (i : ℕ) → i < length kept → IsLast kept (sha256_at kept i) i (slice_index_or older i None)
  pub last : (sha256 : List ℕ) → IsLast kept sha256 (length kept) (tree.get (slice_cmp nat_cmp) newest sha256)

-- one before it has the same bytes and the same digests
pub record HasEarlier (bytes : List ℕ) (kept : List FileRef) (at : ℕ) : Type 0 where
  pub earlier : ℕ
  pub before : earlier < at
  pub same : IsSame bytes (slice_index_or kept at no_file) (slice_index_or kept earlier no_file)

-- a reference is kept already, or it begins where the kept contents end and is one more; they end here then
abbrev pub Adds : List FileRef → ℕ → FileRef → List FileRef → ℕ → Type 0
Adds kept end file next new_end =
    (Contains kept file × (next ≡ kept) × (new_end ≡ end))
    ⊎ (¬ Contains kept file × (file.place ≡ end) × (end + file.len ≤ 2 ^ 62) × (next ≡ kept ++ file ∷ []) × (new_end ≡ end + file.len))

-- it is neither, or the contents would end past 2^62
abbrev pub FollowsNot : List FileRef → ℕ → FileRef → Type 0
FollowsNot kept end file = ¬ Contains kept file × (file.place ≡ end → end + file.len ≤ 2 ^ 62 → ⊥)
