-- Which numbers are limits.
use Rattle.std.specs.Prelude.{ℕ, ◌<◌, ◌≤◌}
use Rattle.arti_rows.specs.Sizes.{most_content}

-- above 0, and at most so many
abbrev pub IsWithin : ℕ → ℕ → Type 0
IsWithin most n = (0 < n) × (n ≤ most)

-- each of the eight is above 0 and at most the standard one
pub record AreLimits (repositories items builds content document journal blobs requests : ℕ) : Type 0 where
  pub repositories_fit : IsWithin 1024 repositories
  pub items_fit : IsWithin 262144 items
  pub builds_fit : IsWithin 65536 builds
  pub content_fits : IsWithin most_content content
  pub document_fits : IsWithin 8388608 document
  pub journal_fits : IsWithin 1073741824 journal
  pub blobs_fit : IsWithin 1099511627776 blobs
  pub requests_fit : IsWithin 1000000 requests
