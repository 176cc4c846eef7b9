use Rattle.std.proofs.Common.{◌-◌, subst, sym}
use Rattle.std.specs.List.{All}
use Rattle.arti_tree.specs.Pieces.{IsSpare}
use Rattle.arti_tree.proofs.Piecing.{All-remove}
use Rattle.arti_tree.proofs.pieces.take_spare.Goals as goal

pub returns-clause-aside : goal.returns-clause-aside
returns-clause-aside c = subst (All IsSpare) (sym c.remove.ensures.items) (All-remove IsSpare c.args.spare.now.items (c.len.result - 1) c.requires.aside)
