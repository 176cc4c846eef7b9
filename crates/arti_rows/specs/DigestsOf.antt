-- The three digests of a content (RFC 1321, FIPS 180-4).
use Rattle.std.specs.Prelude.{ℕ, List}
use Rattle.md5.specs.Md5.{md5}
use Rattle.sha1.specs.Sha1.{sha1}
use Rattle.sha2.specs.Sha256.{sha256}
use Rattle.arti_rows.specs.declared.rows.Digests.{Digests}

-- the three digests of a content
abbrev pub digests_of : List ℕ → Digests
digests_of content = record { md5 = md5 content; sha1 = sha1 content; sha256 = sha256 content }
