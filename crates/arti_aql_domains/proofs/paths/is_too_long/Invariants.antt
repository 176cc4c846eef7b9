use Rattle.std.proofs.Common.{◌≡◌, ◌≤◌, ◌+◌, ◌-◌, length}
use denote.Shadow.{shadow}
use denote.Text.{Utf8}
use Rattle.arti_query_model.specs.Paths.{path_text}
use Rattle.arti_aql_domains.proofs.paths.is_too_long.Given as goal

abbrev pub invariant-loop-count : goal.invariant-loop-count
invariant-loop-count l = (l.count ≤ 7) × (length (path_text l.path).names ≡ l.count + length (path_text l.rest).names) × shadow (Utf8 l.rest)

abbrev pub decreases-loop-count : goal.decreases-loop-count
decreases-loop-count l = 7 - l.count
