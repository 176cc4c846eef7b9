use Rattle.std.proofs.Common.{◌≡◌, ℕ, Option, sym, ap, ◌∙◌, rules}
use Rattle.std.specs.Prelude.{is_some}
use Rattle.arti_tree.specs.Rows.{Row, row_at}
use Rattle.arti_model.specs.Laws.{is_some-map}
use Rattle.arti_catalog.proofs.Found.{has_is}
use Rattle.arti_catalog.proofs.parts.Parts.has.Goals as goal

pub returns : goal.returns
returns c =
    let tree = c.args.self.now.tree in
    let key = c.args.key.now in
    let told : c.is_some.result ≡ is_some (row_at tree key) = search rules ∙ ap (λ (o : Option ℕ). is_some o) c.get.ensures ∙ is_some-map (λ (r : Row). r.id) (row_at tree key) in
    told ∙ sym (has_is tree c.args.self.now.rows key)
