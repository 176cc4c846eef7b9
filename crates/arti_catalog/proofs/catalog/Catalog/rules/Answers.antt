use Rattle.std.proofs.Common.{subst}
use Rattle.arti_catalog.specs.Held.{Held, items_in}
use Rattle.arti_catalog.specs.Formed.{WellFormed}
use Rattle.arti_catalog.proofs.Forming.{formed}
use Rattle.arti_catalog.proofs.catalog.Catalog.rules.Goals as goal

pub returns : goal.returns
returns c =
    let tree = c.self.inside.parts.tree in
    let rows = c.self.inside.parts.rows in
    let P : Held → Type 0 = λ h. WellFormed h.limits (items_in h) in
    subst P c.self.view_is (formed c.self.inside.limits tree rows c.self.invariant.0 c.self.invariant.1 c.folders_stand.ensures)
