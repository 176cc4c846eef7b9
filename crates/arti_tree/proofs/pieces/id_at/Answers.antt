use Rattle.std.proofs.Common.{◌-◌, ℕ, List, length, get_or, sym, ap, ◌∙◌, arith}
use Rattle.std.specs.List.{concat}
use Rattle.arti_tree.specs.Pieces.{lists}
use Rattle.arti_tree.proofs.Piecing.{block-at, below-blocks, below-lists, place-is, end-lt, get_or-concat}
use Rattle.arti_tree.proofs.pieces.id_at.Goals as goal

pub block_of-at-requires-clause-first : goal.block_of-at-requires-clause-first
block_of-at-requires-clause-first c = c.requires.has.each 0 c.requires.some

pub id_in-requires : goal.id_in-requires
id_in-requires c =
    let bs = c.args.blocks.now in
    let at : ℕ = c.block_of-at.result in
    let found = c.block_of-at.ensures in
    let below = below-blocks c.args.starts.now bs at c.args.place c.requires.has found.within found.start in
    let inside = end-lt c.args.starts.now bs at c.args.place c.requires.has found.within found.start found.end c.requires.place in
    omega (arith, inside, ap (λ (l : List ℕ). length l) (block-at bs at c.index-blocks-at.result below c.index-blocks-at.is))

pub returns : goal.returns
returns c =
    let bs = c.args.blocks.now in
    let at : ℕ = c.block_of-at.result in
    let found = c.block_of-at.ensures in
    let k : ℕ = c.args.place - get_or c.args.starts.now at 0 in
    let below = below-blocks c.args.starts.now bs at c.args.place c.requires.has found.within found.start in
    let below_lists = below-lists c.args.starts.now bs at c.args.place c.requires.has found.within found.start in
    let inside = end-lt c.args.starts.now bs at c.args.place c.requires.has found.within found.start found.end c.requires.place in
    c.id_in.ensures
    ∙ ap (λ (l : List ℕ). get_or l k 0) (block-at bs at c.index-blocks-at.result below c.index-blocks-at.is)
    ∙ sym (get_or-concat (lists bs) at k below_lists inside)
    ∙ ap (λ n. get_or (concat (lists bs)) n 0) (place-is c.args.starts.now bs at c.args.place c.requires.has found.within found.start)
