use Rattle.std.proofs.Common.{◌≡◌, ◌+◌, ◌-◌, length, get_or, refl, arith, rules}
use Rattle.arti_tree.proofs.Piecing.{last-is}
use Rattle.arti_tree.proofs.pieces.count.Goals as goal

pub overflow_add-result : goal.overflow_add-result
overflow_add-result c =
    let bs = c.args.blocks.now in
    let n : c.len.result ≡ length c.index-blocks-last.result.items = search rules in
    let last : (length bs - 1) + 1 ≡ length bs = omega (arith, c.requires.some) in
    omega (arith, c.requires.few, last-is c.args.starts.now bs (length bs - 1) (get_or c.args.starts.now (length bs - 1) 0) c.len.result c.index-blocks-last.result c.requires.has last refl c.index-blocks-last.is n)

pub returns : goal.returns
returns c =
    let bs = c.args.blocks.now in
    let n : c.len.result ≡ length c.index-blocks-last.result.items = search rules in
    let last : (length bs - 1) + 1 ≡ length bs = omega (arith, c.requires.some) in
    last-is c.args.starts.now bs (length bs - 1) (get_or c.args.starts.now (length bs - 1) 0) c.len.result c.index-blocks-last.result c.requires.has last refl c.index-blocks-last.is n
