-- Replies to queries.
use Rattle.std.specs.Prelude.{◌≡◌, ℕ, List, length, IfSome}
use Rattle.arti_rows.specs.declared.rows.ItemRow.{ItemRow}
use Rattle.arti_blobs.specs.Contents.{content}
use Rattle.arti_model.specs.Store.{File}
use Rattle.arti_model.specs.Query.{file_size, all_in, query_text}
use Rattle.arti_model.specs.Decide as model
use Rattle.arti_store.specs.Store.{View, holding_of}

-- the row's content, if it has one, stands whole in those bytes
abbrev pub IsWhole : List ℕ → ItemRow → Type 0
IsWhole bytes row = IfSome row.file (λ file. length (content bytes file) ≡ file.len)

-- what the model decides of a query for the items of that repository
abbrev pub key_over : List ℕ → View → List ℕ → model.Decision File
key_over bytes v repo = model.Tells (model.json 200 (query_text file_size (all_in repo) (holding_of bytes v).repository))
