-- The content that hashers have taken.
use Rattle.std.specs.Prelude.{◌≡◌, ℕ, List, length}
use Rattle.md5.specs.Md5 as Md
use Rattle.sha1.specs.Sha1 as Sha
use Rattle.sha2.specs.Hashers.{Holds256}
pub use Rattle.arti_rows.specs.DigestsOf.{digests_of}
use Rattle.arti_blobs.specs.declared.staging.Hashers.{Hashers}
use Rattle.arti_blobs.specs.declared.staging.Staging.{Staging}

-- the hashers have taken these bytes
pub record HasTaken (h : Hashers) (bytes : List ℕ) : Type 0 where
  pub md5 : Md.Holds h.md5 bytes
  pub sha1 : Sha.Holds h.sha1 bytes
  pub sha256 : Holds256 h.sha256 bytes

-- a staging has these bytes
pub record Has (s : Staging) (bytes : List ℕ) : Type 0 where
  pub taken : HasTaken s.hashers bytes
  pub counted : s.len ≡ length bytes
