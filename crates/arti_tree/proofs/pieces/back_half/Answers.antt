use Rattle.std.proofs.Common.{List, ℕ, length, ap, arith}
use Rattle.std.proofs.lemmas.List.{take_rest, length-drop}
use Rattle.arti_tree.proofs.pieces.back_half.Goals as goal

pub returns-clause-items : goal.returns-clause-items
returns-clause-items c = take_rest c.args.ids.now 2048

pub returns-clause-few : goal.returns-clause-few
returns-clause-few c = omega (arith, ap (λ (l : List ℕ). length l) (take_rest c.args.ids.now 2048), length-drop 2048 c.args.ids.now, c.requires)
