-- Replies that are told in parts.
use Rattle.std.specs.Prelude.{ℕ, false, List, [], Option, Some, None}
use Rattle.arti_rows.specs.declared.rows.FileRef.{FileRef}
use Rattle.arti_rows.specs.declared.refusal.Which.{Which}
use Rattle.arti_rows.specs.declared.refusal.Refusal.TheVariants.{Full}
use Rattle.arti_ground.specs.State.{State}
use Rattle.arti_blobs.specs.Contents.{content}
use Rattle.arti_model.specs.Perform.{told, refusal_reply}
use Rattle.arti_store.specs.Store.{contents_at}

-- what comes behind the head: a kept content, or nothing
abbrev pub rest_of : List ℕ → Option FileRef → List ℕ
rest_of bytes None = []
rest_of bytes (Some file) = content bytes file

abbrev pub rest_at : State → Option FileRef → List ℕ
rest_at s = rest_of (contents_at s)

-- the reply where there is no room
abbrev pub full_reply : Which → List ℕ
full_reply which = told false (refusal_reply (Full which))
