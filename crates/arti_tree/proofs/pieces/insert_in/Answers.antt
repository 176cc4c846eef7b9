use Rattle.std.proofs.Common.{ℕ, List, length, get_or, [], ap, ◌∙◌, arith}
use Rattle.std.specs.List.{insert}
use Rattle.std.proofs.lemmas.List.Elements.{All-set}
use Rattle.arti_tree.specs.Pieces.{lists, IsWide}
use Rattle.arti_tree.proofs.Piecing.{lists-set, block-at, wide-at}
use Rattle.arti_tree.proofs.pieces.insert_in.Goals as goal

pub insert_ready-requires-clause-within : goal.insert_ready-requires-clause-within
insert_ready-requires-clause-within c = omega (arith, c.requires.place, ap (λ (l : List ℕ). length l) (block-at c.args.blocks.now.items c.args.at c.index_mut.result.now c.requires.at c.index_mut.ensures.value))

pub insert_ready-requires-clause-wide : goal.insert_ready-requires-clause-wide
insert_ready-requires-clause-wide c = wide-at c.args.blocks.now.items c.args.at c.index_mut.result.now c.requires.at c.index_mut.ensures.value c.requires.wide

pub returns-clause-lists : goal.returns-clause-lists
returns-clause-lists c =
    let bs = c.args.blocks.now.items in
    let same = block-at bs c.args.at c.index_mut.result.now c.requires.at c.index_mut.ensures.value in
    lists-set bs c.args.at c.insert_ready.new.ids (insert (get_or (lists bs) c.args.at []) c.args.place c.args.id) (c.insert_ready.ensures.items ∙ ap (λ (l : List ℕ). insert l c.args.place c.args.id) same)

pub returns-clause-wide : goal.returns-clause-wide
returns-clause-wide c = All-set IsWide c.args.blocks.now.items c.args.at c.insert_ready.new.ids c.insert_ready.ensures.wide c.requires.wide

pub insert_ready-requires-clause-room : goal.insert_ready-requires-clause-room
insert_ready-requires-clause-room c = omega (arith, c.requires.room, ap (λ (l : List ℕ). length l) (block-at c.args.blocks.now.items c.args.at c.index_mut.result.now c.requires.at c.index_mut.ensures.value))
