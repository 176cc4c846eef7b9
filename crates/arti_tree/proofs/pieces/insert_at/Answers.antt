use Rattle.std.proofs.Common.{◌-◌, get_or, set, [], ap, ◌∙◌, arith}
use Rattle.std.specs.List.{insert}
use Rattle.arti_tree.specs.Pieces.{lists}
use Rattle.arti_tree.proofs.Piecing.{concat-inserted, over-inserted, length-inserted}
use Rattle.arti_tree.proofs.pieces.insert_at.Goals as goal

pub insert_in-requires-clause-place : goal.insert_in-requires-clause-place
insert_in-requires-clause-place c = omega (arith, c.requires.start, c.requires.end, c.start_of.ensures)

pub restart_all-requires-clause-few : goal.restart_all-requires-clause-few
restart_all-requires-clause-few c =
    let bs = c.args.blocks.now.items in
    let is = c.insert_in.ensures.lists ∙ ap (λ n. set (lists bs) c.args.at (insert (get_or (lists bs) c.args.at []) (c.args.place - n) c.args.id)) c.start_of.ensures in
    omega (arith, c.requires.few, length-inserted c.args.starts.now.items bs c.insert_in.new.blocks.items c.args.at c.args.place c.args.id c.requires.has c.requires.at c.requires.start c.requires.end is)

pub returns-clause-items : goal.returns-clause-items
returns-clause-items c =
    let bs = c.args.blocks.now.items in
    let is = c.insert_in.ensures.lists ∙ ap (λ n. set (lists bs) c.args.at (insert (get_or (lists bs) c.args.at []) (c.args.place - n) c.args.id)) c.start_of.ensures in
    concat-inserted c.args.starts.now.items bs c.insert_in.new.blocks.items c.args.at c.args.place c.args.id c.requires.has c.requires.at c.requires.start c.requires.end is

pub returns-clause-over : goal.returns-clause-over
returns-clause-over c =
    let bs = c.args.blocks.now.items in
    let is = c.insert_in.ensures.lists ∙ ap (λ n. set (lists bs) c.args.at (insert (get_or (lists bs) c.args.at []) (c.args.place - n) c.args.id)) c.start_of.ensures in
    over-inserted c.args.starts.now.items bs c.insert_in.new.blocks.items c.args.at c.args.place c.args.id c.requires.has c.requires.at c.requires.start c.requires.end is
