use Rattle.std.proofs.Common.{◌≡◌, ◌+◌, ◌<◌, ◌≤◌, ℕ, suc, List, length, get_or, [], ap, ◌∙◌, arith, rules, add-one}
use Rattle.std.specs.List.{concat}
use Rattle.arti_tree.specs.Pieces.{lists, over, joined}
use Rattle.arti_tree.proofs.Piecing.{lists-merged, concat-joined, over-joined, block-at}
use Rattle.arti_tree.proofs.pieces.merge.Goals as goal

module _ (c : goal.After-drop-next) where
  below : c.args.at + 1 < length c.args.blocks.now.items
  below = search rules

  is : lists c.append_to.new.blocks.items ≡ joined (lists c.args.blocks.now.items) c.args.at
  is = lists-merged c.args.blocks.now.items c.remove-next.new.self.items c.append_to.new.blocks.items c.args.at c.remove-next.result c.as_slice.result.now below c.remove-next.ensures.items c.remove-next.ensures.value c.as_slice.ensures.value c.append_to.ensures.lists

  small : length (get_or (lists c.args.blocks.now.items) c.args.at []) + length (get_or (lists c.args.blocks.now.items) (suc c.args.at) []) ≤ 2048
  small =
      let bs = c.args.blocks.now.items in
      let one : c.len-else-at-len.result ≡ length c.index.result.now.items = search rules in
      let two : c.len-else-at-len-2.result ≡ length c.index-else-at-len.result.now.items = search rules in
      let sum : c.len-else-at-len.result + c.len-else-at-len-2.result ≤ 2048 = search rules in
      omega (
        arith,
        one,
        two,
        sum,
        ap (λ (l : List ℕ). length l) (block-at bs c.args.at c.index.result.now c.requires.at c.index.ensures),
        ap (λ (l : List ℕ). length l) (block-at bs (c.args.at + 1) c.index-else-at-len.result.now below c.index-else-at-len.ensures ∙ ap (λ k. get_or (lists bs) k []) (add-one c.args.at)),
      )

pub returns-clause-items : goal.returns-clause-items
returns-clause-items c = ap concat (is c) ∙ concat-joined (lists c.args.blocks.now.items) c.args.at

pub returns-clause-over : goal.returns-clause-over
returns-clause-over c = ap over (is c) ∙ over-joined (lists c.args.blocks.now.items) c.args.at (small c)
