use Rattle.std.proofs.Common.{◌≡◌, ◌++◌, ℕ, List, drop}
use Rattle.std.specs.Prelude.{All, map}
use Rattle.arti_model.specs.Query.{file_size, facts_of, all_in, page}
use Rattle.arti_aql_reply.specs.Rows.{facts_of_rows}
use Rattle.arti_store.specs.Items.{items_in}
use Rattle.arti_service.specs.Queries.{IsWhole}
use Rattle.arti_service.proofs.query.files_in.Given as goal

abbrev pub invariant-loop-row : goal.invariant-loop-row
invariant-loop-row l = (bytes : List ℕ) → All (IsWhole bytes) l.rows → facts_of_rows l.out.items ++ map (facts_of file_size) (page file_size (all_in l.repo) (record { items = items_in bytes (drop l.row-index l.rows) })) ≡ map (facts_of file_size) (page file_size (all_in l.repo) (record { items = items_in bytes l.rows }))
