use Rattle.std.proofs.Common.{List, ℕ, length, sym, ap, ◌∙◌}
use Rattle.std.proofs.lemmas.List.{length-map}
use Rattle.arti_tree.specs.Rows.{Row}
use Rattle.arti_tree.specs.ByKey.{by_key}
use Rattle.arti_catalog.specs.Held.{item_with}
use Rattle.arti_catalog.proofs.Found.{length-by_key}
use Rattle.arti_catalog.proofs.parts.Parts.len.Goals as goal

pub returns : goal.returns
returns c =
    let tree = c.args.self.now.tree in
    ap (λ (l : List ℕ). length l) c.all.ensures.rows ∙ length-map tree (λ (r : Row). r.id)
    ∙ sym (length-map (by_key tree) (item_with c.args.self.now.rows) ∙ length-by_key tree c.requires.once)
