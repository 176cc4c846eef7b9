use Rattle.std.proofs.Common.{refl, sym, ap, ◌∙◌, Some, option_map, box_value}
use Rattle.arti_props.proofs.Boxes.{found, ordered, put_is}
use Rattle.arti_props.specs.Boxes.{opened}
use Rattle.arti_props.proofs.rows.Rows.put.Goals as goal

pub returns-clause-old : goal.returns-clause-old
returns-clause-old c = c.opened.ensures ∙ ap (option_map box_value) c.in_ok-old.ensures.old ∙ sym (found c.self.inside.boxes.entries c.args.self.now c.self.view_is c.args.id)

pub returns-clause-rows : goal.returns-clause-rows
returns-clause-rows c = put_is c.self.inside.boxes.entries c.args.self.now c.self.view_is c.args.id c.in_ok-row.row c.args.row c.insert.new.self.entries c.in_ok-row.ensures.ok c.insert.ensures.was_ordered c.in_ok-old.ensures.entries

pub returns-clause-there : goal.returns-clause-there
returns-clause-there c =
    let new = c.insert.new.self.entries in
    found new (opened new) refl c.args.id ∙ ap (option_map box_value) c.in_ok-old.ensures.updates.1 ∙ ap Some c.in_ok-row.ensures.ok

pub returns-clause-ordered : goal.returns-clause-ordered
returns-clause-ordered c =
    let new = c.insert.new.self.entries in
    ordered new (opened new) refl c.insert.ensures.ordered
