use Rattle.std.proofs.Common.{◌≡◌, ℕ, List, length, ap, ◌∙◌, rules}
use Rattle.arti_tree.proofs.Piecing.{block-at}
use Rattle.arti_tree.proofs.pieces.len_at.Goals as goal

pub returns : goal.returns
returns c =
    let n : c.len.result ≡ length c.index.result.now.items = search rules in
    n ∙ ap (λ (l : List ℕ). length l) (block-at c.args.blocks.now.items c.args.at c.index.result.now c.requires c.index.ensures)
