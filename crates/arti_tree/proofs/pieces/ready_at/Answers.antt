use Rattle.std.proofs.Common.{◌≡◌, ◌+◌, ◌<◌, ◌≤◌, ℕ, List, length, get_or, [], ◌⊎◌, ap, ◌∙◌, subst, arith, rules}
use Rattle.std.specs.List.{concat}
use Rattle.std.proofs.lemmas.List.{length-map}
use Rattle.arti_tree.specs.Pieces.{lists, over}
use Rattle.arti_tree.proofs.Piecing.{concat-halved, over-full, over-halved, room_for-some, room_for-halved, full-at, side-at, side-start, side-free, side-end}
use Rattle.arti_tree.proofs.pieces.ready_at.Goals as goal

pub cut_at-requires-clause-full : goal.cut_at-requires-clause-full
cut_at-requires-clause-full c =
    let more : 4096 ≤ c.len_at.result = search rules in
    full-at c.args.blocks.now.items c.block_for-at.result c.block_for-at.ensures.at c.requires.is.wide (omega (arith, more, c.len_at.ensures))

pub cut_at-requires-clause-aside : goal.cut_at-requires-clause-aside
cut_at-requires-clause-aside c =
    let bs = c.args.blocks.now.items in
    let at : ℕ = c.block_for-at.result in
    let more : 4096 ≤ c.len_at.result = search rules in
    let full = full-at bs at c.block_for-at.ensures.at c.requires.is.wide (omega (arith, more, c.len_at.ensures)) in
    room_for-some (length c.args.spare.now.items) (over (lists bs)) c.requires.room (over-full (lists bs) at (omega (arith, c.block_for-at.ensures.at, length-map bs (λ v. v.items))) full)

module _ (c : goal.After-side) where
  at : ℕ
  at = c.block_for-at.result

  full : length (get_or (lists c.args.blocks.now.items) c.block_for-at.result []) ≡ 4096
  full =
      let more : 4096 ≤ c.len_at.result = search rules in
      full-at c.args.blocks.now.items c.block_for-at.result c.block_for-at.ensures.at c.requires.is.wide (omega (arith, more, c.len_at.ensures))

  chosen : ((c.side.result ≡ c.block_for-at.result) × (c.args.place < get_or c.cut_at.new.starts.items (c.block_for-at.result + 1) 0)) ⊎ ((c.side.result ≡ c.block_for-at.result + 1) × (get_or c.cut_at.new.starts.items (c.block_for-at.result + 1) 0 ≤ c.args.place))
  chosen = subst (λ m. ((c.side.result ≡ c.block_for-at.result) × (c.args.place < m)) ⊎ ((c.side.result ≡ c.block_for-at.result + 1) × (m ≤ c.args.place))) c.start_of.ensures c.side.ensures

  in_old : c.block_for-at.result < length (lists c.args.blocks.now.items)
  in_old = omega (arith, c.block_for-at.ensures.at, length-map c.args.blocks.now.items (λ v. v.items))

pub returns-clause-is : goal.returns-clause-is
returns-clause-is c =
    let cut = c.cut_at.ensures in
    record {
      some = omega (arith, cut.len);
      has = cut.has;
      wide = cut.wide;
      aside = cut.aside;
      few = omega (arith, c.requires.is.few, ap (λ (ls : List (List ℕ)). length (concat ls)) cut.lists, ap (λ (l : List ℕ). length l) (concat-halved (lists c.args.blocks.now.items) c.block_for-at.result));
      starts_fit = cut.starts_fit;
      fit = cut.fit;
    }

pub returns-clause-items : goal.returns-clause-items
returns-clause-items c = ap concat c.cut_at.ensures.lists ∙ concat-halved (lists c.args.blocks.now.items) c.block_for-at.result

pub returns-clause-at : goal.returns-clause-at
returns-clause-at c = side-at c.args.starts.now.items c.cut_at.new.starts.items c.args.blocks.now.items c.cut_at.new.blocks.items c.block_for-at.result c.args.place c.side.result c.requires.is.has c.cut_at.ensures.has c.cut_at.ensures.lists c.block_for-at.ensures.at (full c) c.block_for-at.ensures.start c.block_for-at.ensures.end (chosen c)

pub returns-clause-start : goal.returns-clause-start
returns-clause-start c = side-start c.args.starts.now.items c.cut_at.new.starts.items c.args.blocks.now.items c.cut_at.new.blocks.items c.block_for-at.result c.args.place c.side.result c.requires.is.has c.cut_at.ensures.has c.cut_at.ensures.lists c.block_for-at.ensures.at (full c) c.block_for-at.ensures.start c.block_for-at.ensures.end (chosen c)

pub returns-clause-end : goal.returns-clause-end
returns-clause-end c = side-end c.args.starts.now.items c.cut_at.new.starts.items c.args.blocks.now.items c.cut_at.new.blocks.items c.block_for-at.result c.args.place c.side.result c.requires.is.has c.cut_at.ensures.has c.cut_at.ensures.lists c.block_for-at.ensures.at (full c) c.block_for-at.ensures.start c.block_for-at.ensures.end (chosen c)

pub returns-clause-free : goal.returns-clause-free
returns-clause-free c = omega (arith, side-free c.args.starts.now.items c.cut_at.new.starts.items c.args.blocks.now.items c.cut_at.new.blocks.items c.block_for-at.result c.args.place c.side.result c.requires.is.has c.cut_at.ensures.has c.cut_at.ensures.lists c.block_for-at.ensures.at (full c) c.block_for-at.ensures.start c.block_for-at.ensures.end (chosen c))

pub returns-clause-room : goal.returns-clause-room
returns-clause-room c =
    let bs = c.args.blocks.now.items in
    room_for-halved (length c.args.spare.now.items) (length c.cut_at.new.spare.items) (over (lists bs)) (over (lists c.cut_at.new.blocks.items)) c.cut_at.ensures.spare
    (ap (λ (ls : List (List ℕ)). over ls + 2048) c.cut_at.ensures.lists ∙ over-halved (lists bs) c.block_for-at.result (in_old c) (full c))
