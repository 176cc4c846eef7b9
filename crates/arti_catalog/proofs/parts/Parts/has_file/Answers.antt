use Rattle.std.proofs.Common.{◌≡◌, false, Option, Some, None, refl, sym, ap, ◌∙◌, rules}
use Rattle.std.specs.Prelude.{option_map}
use Rattle.std.specs.Option.{option_map_or}
use Rattle.arti_tree.specs.Rows.{Row, row_at}
use Rattle.arti_catalog.proofs.Found.{has_file_is, looked_up}
use Rattle.arti_catalog.proofs.parts.Parts.has_file.Goals as goal

none : (o : Option Row) → None ≡ option_map (λ r. r.id) o → false ≡ option_map_or (λ r. r.is_file) o false
none None e = refl
none (Some r) e = cc

pub returns-in-Some : goal.returns-in-Some
returns-in-Some c =
    let tree = c.args.self.now.tree in
    let rows = c.args.self.now.rows in
    let key = c.args.key.now in
    let is : Some c.in-Some.id ≡ option_map (λ r. r.id) (row_at tree key) = search rules in
    let found = looked_up tree rows key c.requires c.in-Some.id is in
    c.is_file.ensures ∙ ap (λ (o : Option Row). option_map_or (λ r. r.is_file) o false) (found.3 ∙ sym found.1) ∙ sym (has_file_is tree rows key c.requires.each)

pub returns-in-None : goal.returns-in-None
returns-in-None c =
    let tree = c.args.self.now.tree in
    let rows = c.args.self.now.rows in
    let key = c.args.key.now in
    let is : None ≡ option_map (λ r. r.id) (row_at tree key) = search rules in
    none (row_at tree key) is ∙ sym (has_file_is tree rows key c.requires.each)
