use Rattle.std.proofs.Common.{◌≡◌, ℕ, List, drop}
use Rattle.std.specs.List.{find}
use Rattle.arti_model.specs.Store.{Item, File}
use Rattle.arti_model.specs.Deploys.{is_wanted}
use Rattle.arti_store.specs.Items.{items_in}
use Rattle.arti_service.proofs.looking.row_with.Given as goal

abbrev pub invariant-loop-row : goal.invariant-loop-row
invariant-loop-row l = (bytes : List ℕ) → find (λ (item : Item File). is_wanted (λ (f : File). f.digests) l.wanted item.file) (items_in bytes (drop l.row-index l.rows)) ≡ find (λ (item : Item File). is_wanted (λ (f : File). f.digests) l.wanted item.file) (items_in bytes l.rows)
