use Rattle.std.proofs.Common.{◌≡◌, rules, sym, ap, ◌∙◌, Some, None, option_map, box_value}
use Rattle.std.specs.Map.{lookup}
use Rattle.std.specs.BTreeMap.{is_at}
use Rattle.std.specs.Ordering.{nat_cmp}
use Rattle.arti_props.proofs.Boxes.{found}
use Rattle.arti_props.proofs.rows.Rows.get.Goals as goal

pub returns-in-Some : goal.returns-in-Some
returns-in-Some c =
    let at : lookup (is_at (nat_cmp c.args.id)) c.self.inside.boxes.entries ≡ Some c.in-Some.row.now = search rules in
    ap Some c.as_ref.ensures ∙ sym (found c.self.inside.boxes.entries c.args.self.now c.self.view_is c.args.id ∙ ap (option_map box_value) at)

pub returns-in-None : goal.returns-in-None
returns-in-None c =
    let at : lookup (is_at (nat_cmp c.args.id)) c.self.inside.boxes.entries ≡ None = search rules in
    sym (found c.self.inside.boxes.entries c.args.self.now c.self.view_is c.args.id ∙ ap (option_map box_value) at)
