use Rattle.std.proofs.Common.{◌≡◌, ◌+◌, ◌-◌, ℕ, List, length, drop, ap, arith, rules}
use Rattle.std.proofs.lemmas.List.{length-map, drop_all}
use Rattle.arti_tree.specs.Pieces.{lists, over}
use Rattle.arti_tree.proofs.Piecing.{over-le, over-drop, block-at}
use Rattle.arti_tree.proofs.pieces.over_in.Goals as goal
use Rattle.arti_tree.proofs.pieces.over_in.Goals.{then-len-gt-HALF, else-len-gt-HALF}

pub overflow_add-over : goal.overflow_add-over
overflow_add-over c =
    let bs = c.args.blocks.now in
    let i = c.loop-block.block-index in
    let n : c.len-then-len-gt-HALF.result ≡ length c.block-item.result.items = search rules in
    let inv : c.loop-block.over + over (drop i (lists bs)) ≡ over (lists bs) = c.loop-block.invariant in
    omega (arith, n, inv, c.requires, over-le (lists bs), over-drop (lists bs) i (omega (arith, length-map bs (λ v. v.items), c.loop-block-test.true)), ap (λ (l : List ℕ). length l) (block-at bs i c.block-item.result c.loop-block-test.true c.block-item.is))

pub loop-block-preserved : goal.loop-block-preserved
loop-block-preserved c =
    let bs = c.args.blocks.now in
    let i = c.loop-block.block-index in
    let n : c.len.result ≡ length c.block-item.result.items = search rules in
    let inv : c.loop-block.over + over (drop i (lists bs)) ≡ over (lists bs) = c.loop-block.invariant in
    let step = over-drop (lists bs) i (omega (arith, length-map bs (λ v. v.items), c.loop-block-test.true)) in
    let at = ap (λ (l : List ℕ). length l) (block-at bs i c.block-item.result c.loop-block-test.true c.block-item.is) in
    let is : c.if-len-gt-HALF.over ≡ c.loop-block.over + (length c.block-item.result.items - 2048) =
    elim c.if-len-gt-HALF.branch [ then-len-gt-HALF w ↦ omega (arith, n, w.over-is, w.if-len-gt-HALF.true, w.len-then-len-gt-HALF.ensures, c.len.ensures) | else-len-gt-HALF w ↦ omega (arith, n, w.over-is, w.if-len-gt-HALF.false) ] in
    omega (arith, is, inv, step, at)

pub returns : goal.returns
returns c =
    let bs = c.args.blocks.now in
    let i = c.loop-block.block-index in
    let inv : c.loop-block.over + over (drop i (lists bs)) ≡ over (lists bs) = c.loop-block.invariant in
    omega (arith, inv, ap over (drop_all i (lists bs) (omega (arith, length-map bs (λ v. v.items), c.loop-block-test.false))))
