use Rattle.std.proofs.Common.{ℕ, List, length, get_or, [], ap, ◌∙◌, arith}
use Rattle.std.specs.List.{remove}
use Rattle.std.proofs.lemmas.List.Elements.{All-set}
use Rattle.arti_tree.specs.Pieces.{lists, IsWide}
use Rattle.arti_tree.proofs.Piecing.{lists-set, block-at, wide-at}
use Rattle.arti_tree.proofs.pieces.remove_in.Goals as goal

pub remove_one-requires-clause-within : goal.remove_one-requires-clause-within
remove_one-requires-clause-within c = omega (arith, c.requires.place, ap (λ (l : List ℕ). length l) (block-at c.args.blocks.now.items c.args.at c.index_mut.result.now c.requires.at c.index_mut.ensures.value))

pub remove_one-requires-clause-wide : goal.remove_one-requires-clause-wide
remove_one-requires-clause-wide c = wide-at c.args.blocks.now.items c.args.at c.index_mut.result.now c.requires.at c.index_mut.ensures.value c.requires.wide

pub returns-clause-lists : goal.returns-clause-lists
returns-clause-lists c =
    let bs = c.args.blocks.now.items in
    let same = block-at bs c.args.at c.index_mut.result.now c.requires.at c.index_mut.ensures.value in
    lists-set bs c.args.at c.remove_one.new.ids (remove (get_or (lists bs) c.args.at []) c.args.place) (c.remove_one.ensures.items ∙ ap (λ (l : List ℕ). remove l c.args.place) same)

pub returns-clause-wide : goal.returns-clause-wide
returns-clause-wide c = All-set IsWide c.args.blocks.now.items c.args.at c.remove_one.new.ids c.remove_one.ensures.wide c.requires.wide
