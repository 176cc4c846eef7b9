use Rattle.std.proofs.Common.{◌≡◌, List, Option, Some, None, refl, sym, ap, ◌∙◌, rules}
use Rattle.std.specs.Prelude.{option_map}
use Rattle.arti_rows.specs.declared.rows.ItemRow.{ItemRow}
use Rattle.arti_tree.specs.Rows.{Row, row_at}
use Rattle.arti_model.specs.Store.{item_of_row}
use Rattle.arti_catalog.specs.Held.{at, item_with}
use Rattle.arti_catalog.proofs.Found.{find_is, item_is, looked_up}
use Rattle.arti_catalog.proofs.parts.Parts.find.Goals as goal

none : (rows : List (Option ItemRow)) (o : Option Row) → None ≡ option_map (λ r. r.id) o → None ≡ option_map (item_with rows) o
none rows None e = refl
none rows (Some r) e = cc

pub returns-in-Some : goal.returns-in-Some
returns-in-Some c =
    let tree = c.args.self.now.tree in
    let rows = c.args.self.now.rows in
    let key = c.args.key.now in
    let is : Some c.in-Some.id ≡ option_map (λ r. r.id) (row_at tree key) = search rules in
    let found = looked_up tree rows key c.requires c.in-Some.id is in
    let there : at rows found.0.id ≡ Some found.4.row = found.4.there in
    ap (option_map item_of_row) (c.get-in-Some.ensures ∙ ap (at rows) (sym found.2) ∙ there)
    ∙ ap Some (sym (item_is tree rows key found.0 found.4 found.4.row there))
    ∙ sym (find_is tree rows key ∙ ap (option_map (item_with rows)) found.1)

pub returns-in-None : goal.returns-in-None
returns-in-None c =
    let tree = c.args.self.now.tree in
    let rows = c.args.self.now.rows in
    let key = c.args.key.now in
    let is : None ≡ option_map (λ r. r.id) (row_at tree key) = search rules in
    none rows (row_at tree key) is ∙ sym (find_is tree rows key)
