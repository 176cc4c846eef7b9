use Rattle.std.proofs.Common.{◌-◌, ◌<◌, ◌≤◌, ℕ, List, length, get_or, [], ap, ◌∙◌, arith}
use Rattle.std.specs.List.{concat, remove}
use Rattle.std.proofs.lemmas.List.Edits.{length-remove}
use Rattle.arti_tree.specs.Pieces.{lists, over}
use Rattle.arti_tree.proofs.Piecing.{below-lists, place-is, end-lt, concat-remove, over-set_less}
use Rattle.arti_tree.proofs.pieces.remove_near.Goals as goal

pub block_of-at-requires-clause-first : goal.block_of-at-requires-clause-first
block_of-at-requires-clause-first c = c.requires.has.each 0 c.requires.some

pub remove_in-requires-clause-place : goal.remove_in-requires-clause-place
remove_in-requires-clause-place c =
    let found = c.block_of-at.ensures in
    end-lt c.args.starts.now c.args.blocks.now.items c.block_of-at.result c.args.place c.requires.has found.within found.start found.end c.requires.place

pub returns-clause-items : goal.returns-clause-items
returns-clause-items c =
    let bs = c.args.blocks.now.items in
    let at : ℕ = c.block_of-at.result in
    let found = c.block_of-at.ensures in
    let k : ℕ = c.args.place - get_or c.args.starts.now at 0 in
    ap concat c.remove_in.ensures.lists
    ∙ concat-remove (lists bs) at k (below-lists c.args.starts.now bs at c.args.place c.requires.has found.within found.start) (end-lt c.args.starts.now bs at c.args.place c.requires.has found.within found.start found.end c.requires.place)
    ∙ ap (remove (concat (lists bs))) (place-is c.args.starts.now bs at c.args.place c.requires.has found.within found.start)

pub returns-clause-over : goal.returns-clause-over
returns-clause-over c =
    let bs = c.args.blocks.now.items in
    let at : ℕ = c.block_of-at.result in
    let found = c.block_of-at.ensures in
    let k : ℕ = c.args.place - get_or c.args.starts.now at 0 in
    let here : List ℕ = get_or (lists bs) at [] in
    let inside : k < length here = end-lt c.args.starts.now bs at c.args.place c.requires.has found.within found.start found.end c.requires.place in
    let less : length (remove here k) ≤ length here = omega (arith, length-remove here k inside) in
    omega (arith, ap over c.remove_in.ensures.lists, over-set_less (lists bs) at (remove here k) (below-lists c.args.starts.now bs at c.args.place c.requires.has found.within found.start) less)
