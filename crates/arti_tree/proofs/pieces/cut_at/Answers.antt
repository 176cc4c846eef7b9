use Rattle.std.proofs.Common.{ℕ, List, length, ap, arith}
use Rattle.std.specs.List.{concat}
use Rattle.arti_tree.specs.Pieces.{lists}
use Rattle.arti_tree.proofs.Piecing.{concat-halved}
use Rattle.arti_tree.proofs.pieces.cut_at.Goals as goal

pub restart_all-requires-clause-few : goal.restart_all-requires-clause-few
restart_all-requires-clause-few c =
    omega (arith, c.requires.is.few, ap (λ (ls : List (List ℕ)). length (concat ls)) c.halve.ensures.lists, ap (λ (l : List ℕ). length l) (concat-halved (lists c.args.blocks.now.items) c.args.at))
