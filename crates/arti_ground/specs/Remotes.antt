-- What an upstream in memory answers.
use Rattle.std.specs.Prelude.{ℕ, List, Bool, ◌&&◌, nat_eq, map, Option, Some, None, Vec}
use Rattle.std.specs.List.{find}
use Rattle.std.specs.Cmp.Lexicographic.{pointwise}
use Rattle.std.specs.declared.alloc.Global.{Global}
use Rattle.arti_ground.specs.declared.list_upstream.RemoteEntry.{RemoteEntry}
use Rattle.arti_ground.specs.Sources.{Answer, Nothing, Broken, Content, AnswerMap}

-- what an upstream in memory holds: a list of entries for each fetch to come, and its count of faults
pub record Remotes : Type 0 where
  pub answers : List (List RemoteEntry)
  pub faults : ℕ

-- the entry is for this pair
abbrev pub is_for : List ℕ → List ℕ → RemoteEntry → Bool
is_for url path entry = pointwise nat_eq entry.url url && pointwise nat_eq entry.path path

-- an entry without a content is a failure
abbrev pub content_or_broken : Option (List ℕ) → Answer
content_or_broken None = Broken
content_or_broken (Some bytes) = Content bytes

-- no entry is a file that isn't there
abbrev pub content_of : Option RemoteEntry → Answer
content_of None = Nothing
content_of (Some entry) = content_or_broken entry.content

-- the first entry of a pair counts
abbrev pub answer_of : List RemoteEntry → AnswerMap
answer_of entries = λ url path. content_of (find (is_for url path) entries)

abbrev pub lists_of : List (Vec RemoteEntry Global) → List (List RemoteEntry)
lists_of answers = map (λ a. a.items) answers
