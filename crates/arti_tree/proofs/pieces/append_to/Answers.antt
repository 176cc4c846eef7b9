use Rattle.std.proofs.Common.{◌++◌, ℕ, List, length, get_or, [], ap, ◌∙◌, arith}
use Rattle.std.proofs.lemmas.List.Elements.{All-set}
use Rattle.arti_tree.specs.Pieces.{lists, IsWide}
use Rattle.arti_tree.proofs.Piecing.{lists-set, block-at, wide-at}
use Rattle.arti_tree.proofs.pieces.append_to.Goals as goal

pub append_ready-requires-clause-few : goal.append_ready-requires-clause-few
append_ready-requires-clause-few c = omega (arith, c.requires.room, ap (λ (l : List ℕ). length l) (block-at c.args.blocks.now.items c.args.at c.index_mut.result.now c.requires.at c.index_mut.ensures.value))

pub append_ready-requires-clause-wide : goal.append_ready-requires-clause-wide
append_ready-requires-clause-wide c = (wide-at c.args.blocks.now.items c.args.at c.index_mut.result.now c.requires.at c.index_mut.ensures.value c.requires.wide).1

pub returns-clause-lists : goal.returns-clause-lists
returns-clause-lists c =
    let bs = c.args.blocks.now.items in
    let same = block-at bs c.args.at c.index_mut.result.now c.requires.at c.index_mut.ensures.value in
    lists-set bs c.args.at c.append_ready.new.block (get_or (lists bs) c.args.at [] ++ c.args.more.now) (c.append_ready.ensures.items ∙ ap (λ (l : List ℕ). l ++ c.args.more.now) same)

pub returns-clause-wide : goal.returns-clause-wide
returns-clause-wide c = All-set IsWide c.args.blocks.now.items c.args.at c.append_ready.new.block c.append_ready.ensures.wide c.requires.wide
