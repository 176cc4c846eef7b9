use Rattle.std.proofs.Common.{◌+◌, ℕ, List, length, set, take, drop, Vec, Global, sym, ap, ◌∙◌, subst, add-one}
use Rattle.std.specs.List.{All, insert}
use Rattle.std.proofs.lemmas.List.Elements.{All-set}
use Rattle.arti_tree.specs.Pieces.{lists, IsWide}
use Rattle.arti_tree.proofs.Piecing.{lists-halved, block-at, wide-at, All-insert}
use Rattle.arti_tree.proofs.pieces.halve.Goals as goal

pub cut_back-back-requires-clause-full : goal.cut_back-back-requires-clause-full
cut_back-back-requires-clause-full c = ap (λ (l : List ℕ). length l) (block-at c.args.blocks.now.items c.args.at c.index_mut.result.now c.requires.at c.index_mut.ensures.value) ∙ c.requires.full

pub cut_back-back-requires-clause-wide : goal.cut_back-back-requires-clause-wide
cut_back-back-requires-clause-wide c = wide-at c.args.blocks.now.items c.args.at c.index_mut.result.now c.requires.at c.index_mut.ensures.value c.requires.wide

pub returns-clause-lists : goal.returns-clause-lists
returns-clause-lists c =
    let bs = c.args.blocks.now.items in
    let front : Vec ℕ Global = c.cut_back-back.new.block in
    let back : Vec ℕ Global = c.cut_back-back.result in
    let same = block-at bs c.args.at c.index_mut.result.now c.requires.at c.index_mut.ensures.value in
    ap lists c.add_block.ensures.items
    ∙ ap (λ n. lists (insert (set bs c.args.at front) n back)) (add-one c.args.at)
    ∙ lists-halved bs c.args.at front back c.requires.at (c.cut_back-back.ensures.front ∙ ap (take 2048) same) (c.cut_back-back.ensures.back ∙ ap (drop 2048) same)

pub returns-clause-wide : goal.returns-clause-wide
returns-clause-wide c =
    let bs = c.args.blocks.now.items in
    let front : Vec ℕ Global = c.cut_back-back.new.block in
    let back : Vec ℕ Global = c.cut_back-back.result in
    subst (All IsWide) (sym c.add_block.ensures.items)
    (All-insert IsWide (set bs c.args.at front) (c.args.at + 1) back c.cut_back-back.ensures.wide (All-set IsWide bs c.args.at front c.cut_back-back.ensures.front_wide c.requires.wide))
