use Rattle.std.proofs.Common.{refl, sym, ap, ◌∙◌, option_map, box_value}
use Rattle.arti_props.proofs.Boxes.{found, ordered, take_is}
use Rattle.arti_props.specs.Boxes.{opened}
use Rattle.arti_props.proofs.rows.Rows.take.Goals as goal

pub returns-clause-old : goal.returns-clause-old
returns-clause-old c = c.opened.ensures ∙ ap (option_map box_value) c.remove.ensures.value ∙ sym (found c.self.inside.boxes.entries c.args.self.now c.self.view_is c.args.id)

pub returns-clause-rows : goal.returns-clause-rows
returns-clause-rows c = take_is c.self.inside.boxes.entries c.args.self.now c.self.view_is c.args.id c.remove.new.self.entries c.requires c.remove.ensures.entries

pub returns-clause-ordered : goal.returns-clause-ordered
returns-clause-ordered c =
    let new = c.remove.new.self.entries in
    ordered new (opened new) refl c.remove.ensures.ordered
