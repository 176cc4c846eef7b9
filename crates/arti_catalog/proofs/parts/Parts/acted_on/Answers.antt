use Rattle.std.proofs.Common.{Bool, sym, ap, ◌∙◌}
use Rattle.std.specs.Prelude.{filter}
use Rattle.arti_tree.specs.Rows.{Row, ids}
use Rattle.arti_model.specs.Edits.{acts_on}
use Rattle.arti_catalog.proofs.Within.{one_is, not_none}
use Rattle.arti_catalog.proofs.parts.Parts.acted_on.Goals as goal

pub returns-in_ok-alone-in-Some : goal.returns-in_ok-alone-in-Some
returns-in_ok-alone-in-Some c =
    c.in_ok-alone-in-Some.ensures ∙ one_is c.args.self.now.tree c.args.self.now.rows c.args.key.now c.requires.fits c.in-Some.id c.in-Some.ensures
    ∙ ap (λ (deep : Bool). ids (filter (λ (r : Row). acts_on deep c.args.key.now r.key) c.args.self.now.tree)) (sym c.if-deep.false)

pub returns-in-None : goal.returns-in-None
returns-in-None c = absurd (not_none c.args.self.now.tree c.args.self.now.rows c.args.key.now c.requires.fits c.requires.there c.in-None.ensures)
