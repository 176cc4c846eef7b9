use Rattle.std.proofs.Common.{◌≡◌, sym, subst, ◌∙◌, rules}
use Rattle.arti_store.specs.Items.{InOrder, put_row}
use Rattle.arti_store.proofs.Places.{put_in_gap, put_in_place, put_in_order}
use Rattle.arti_store.proofs.rows.put.Goals as goal

pub returns-in-Ok-clause-put : goal.returns-in-Ok-clause-put
returns-in-Ok-clause-put c = c.set_at.ensures.rows ∙ put_in_place c.args.new c.args.rows.now.items c.in-Ok.at (search rules)

pub returns-in-Ok-clause-order : goal.returns-in-Ok-clause-order
returns-in-Ok-clause-order c =
    let rows = c.args.rows.now.items in
    let put : c.set_at.new.rows.items ≡ put_row c.args.new rows = c.set_at.ensures.rows ∙ put_in_place c.args.new rows c.in-Ok.at (search rules) in
    subst InOrder (sym put) (put_in_order c.args.new rows c.requires.order)

pub returns-in-Err-clause-put : goal.returns-in-Err-clause-put
returns-in-Err-clause-put c = c.put_at.ensures.rows ∙ put_in_gap c.args.new c.args.rows.now.items c.in-Err.at (search rules)

pub returns-in-Err-clause-order : goal.returns-in-Err-clause-order
returns-in-Err-clause-order c =
    let rows = c.args.rows.now.items in
    let put : c.put_at.new.rows.items ≡ put_row c.args.new rows = c.put_at.ensures.rows ∙ put_in_gap c.args.new rows c.in-Err.at (search rules) in
    subst InOrder (sym put) (put_in_order c.args.new rows c.requires.order)
