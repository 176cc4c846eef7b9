use Rattle.std.proofs.Common.{ℕ, ◌+◌, ◌<◌, ◌≤◌, List, length, get_or, ap, ◌∙◌, subst, arith}
use Rattle.arti_tree.proofs.Piecing.{end-le}
use Rattle.arti_tree.proofs.pieces.block_for.Goals as goal

pub block_of-requires-clause-first : goal.block_of-requires-clause-first
block_of-requires-clause-first c = ap (λ (l : List ℕ). get_or l 0 0) c.deref.ensures.value ∙ c.requires.has.each 0 c.requires.some

pub returns-clause-end : goal.returns-clause-end
returns-clause-end c =
    let r : ℕ = c.block_of.result in
    let found = subst (λ (l : List ℕ). (r < length l) × (get_or l r 0 ≤ c.args.place) × (r + 1 < length l → c.args.place < get_or l (r + 1) 0)) c.deref.ensures.value (c.block_of.ensures.within, c.block_of.ensures.start, c.block_of.ensures.end) in
    omega (arith, found.1, end-le c.args.starts.now.items c.args.blocks.now.items r c.args.place c.requires.has found.0 found.1 found.2 c.requires.within)
