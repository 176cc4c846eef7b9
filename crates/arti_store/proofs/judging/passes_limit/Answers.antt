use Rattle.std.proofs.Common.{ℕ, ◌+◌, length, ap, ◌∙◌}
use Rattle.std.specs.Prelude.{not, ◌||◌, ◌==◌, nat_le}
use Rattle.arti_model.specs.Apply.{added_with}
use Rattle.arti_store.specs.Items.{items_of}
use Rattle.arti_store.proofs.Meanings.{no_room}
use Rattle.arti_store.proofs.judging.passes_limit.Goals as goal

pub returns : goal.returns
returns c =
    let limits = c.args.limits.now in
    let rows = c.args.rows.now in
    ap not c.has_room.ensures ∙ ap (λ (n : ℕ). not ((n == 0) || nat_le (length rows + n) limits.items)) c.count_with.ensures ∙ no_room limits rows (added_with (items_of rows) c.args.key.now)
