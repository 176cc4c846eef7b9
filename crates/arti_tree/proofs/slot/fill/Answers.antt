use Rattle.std.proofs.Common.{◌≡◌, ◌+◌, ◌<◌, ◌∷◌, ◌++◌, [], length, Some, ap, ◌∙◌, arith, rules}
use Rattle.arti_tree.specs.Rows.{with_row}
use Rattle.arti_tree.specs.Slots.{live, row_with}
use Rattle.arti_tree.proofs.Lives.{live_filled, live_pushed}
use Rattle.arti_tree.proofs.slot.fill.Goals as goal

pub returns-then-place-len-clause-more : goal.returns-then-place-len-clause-more
returns-then-place-len-clause-more c =
    let e : 0 + c.args.id ≡ c.args.id = omega arith in
    let below : c.args.id < length c.args.slots.now.items = search rules in
    live_filled 0 c.args.id c.args.slots.now.items c.args.slot below c.requires.empty ∙ ap (λ k. with_row (row_with k c.args.slot) (live 0 c.args.slots.now.items)) e

pub returns-else-place-len-clause-more : goal.returns-else-place-len-clause-more
returns-else-place-len-clause-more c =
    let pushed : c.push.new.self.items ≡ c.args.slots.now.items ++ Some c.args.slot ∷ [] = search rules in
    let e : 0 + length c.args.slots.now.items ≡ c.args.id = search rules in
    ap (live 0) pushed ∙ live_pushed 0 c.args.slots.now.items c.args.slot ∙ ap (λ k. with_row (row_with k c.args.slot) (live 0 c.args.slots.now.items)) e
