use Rattle.std.proofs.Common.{◌≡◌, ◌≢◌, ◌+◌, ◌<◌, ℕ, suc, List, length, set, slice_index, sym, ap, ◌∙◌, arith, rules, add-one, below_more, get_or-set_other, get_or-set_same}
use Rattle.std.proofs.lemmas.List.{length-map, length-set}
use Rattle.arti_tree.specs.Pieces.{lists, offset}
use Rattle.arti_tree.proofs.Piecing.{offset-suc, offset-le, block-at}
use Rattle.arti_tree.proofs.pieces.restart.Goals as goal

module _ (c : goal.After-len-next) where
  below : c.loop-i.i < length (lists c.args.blocks.now)
  below = omega (arith, length-map c.args.blocks.now (λ v. v.items), c.loop-i-test.true)

  more : c.loop-i.next + c.len-next.result ≡ offset (lists c.args.blocks.now) (suc c.loop-i.i)
  more =
      let bs = c.args.blocks.now in
      let n : c.len-next.result ≡ length c.index-blocks-i.result.items = search rules in
      omega (arith, n, c.loop-i.invariant.next, offset-suc (lists bs) c.loop-i.i below, ap (λ (l : List ℕ). length l) (block-at bs c.loop-i.i c.index-blocks-i.result c.loop-i-test.true c.index-blocks-i.is))

pub overflow_add-next : goal.overflow_add-next
overflow_add-next c = omega (arith, more c, offset-le (lists c.args.blocks.now) (suc c.loop-i.i), c.requires.few)

pub loop-i-preserved : goal.loop-i-preserved
loop-i-preserved c =
    let bs = c.args.blocks.now in
    let starts = c.loop-i.starts in
    let i = c.loop-i.i in
    let inv = c.loop-i.invariant in
    let within : i < length starts = omega (arith, inv.long, c.loop-i-test.true) in
    record {
      long = length-set starts i c.loop-i.next ∙ inv.long;
      next = more c ∙ ap (offset (lists bs)) (sym (add-one i));
      each = below_more (λ k. slice_index (set starts i c.loop-i.next) k ≡ offset (lists bs) k) i
          (λ k h. let ne : k ≢ i = omega arith in get_or-set_other starts i k c.loop-i.next 0 ne ∙ inv.each k h)
          (get_or-set_same starts i c.loop-i.next 0 within ∙ inv.next);
    }

pub returns : goal.returns
returns c = record { long = c.loop-i.invariant.long; each = λ k h. c.loop-i.invariant.each k (omega (arith, h, c.loop-i-test.false)) }
