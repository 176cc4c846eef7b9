use Rattle.std.proofs.Common.{ℕ, List, ap, ◌∙◌}
use Rattle.std.specs.List.{list_any}
use Rattle.arti_catalog.specs.Judged.{gets_too_many}
use Rattle.arti_catalog.proofs.Counting.{room_is}
use Rattle.arti_catalog.proofs.judging_kept.has_no_room.Goals as goal

pub returns : goal.returns
returns c =
    c.in_ok-any.ensures ∙ ap (λ (l : List ℕ). list_any (gets_too_many c.args.named.now c.args.parts.now.rows) l) (c.deref.ensures.value ∙ c.in_ok-ids.ensures)
    ∙ room_is c.args.parts.now.tree c.args.parts.now.rows c.requires.fits c.args.key.now c.args.deep c.args.named.now
