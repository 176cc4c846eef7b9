use Rattle.std.proofs.Common.{◌≡◌, ◌+◌, ap, ◌∙◌, arith}
use Rattle.arti_tree.specs.Rows.{without_row}
use Rattle.arti_tree.specs.Slots.{live}
use Rattle.arti_tree.proofs.Lives.{live_emptied}
use Rattle.arti_tree.proofs.slot.empty.Goals as goal

pub returns-clause-less : goal.returns-clause-less
returns-clause-less c =
    let e : 0 + c.args.id ≡ c.args.id = omega arith in
    live_emptied 0 c.args.id c.args.slots.now.items c.requires ∙ ap (λ k. without_row k (live 0 c.args.slots.now.items)) e
