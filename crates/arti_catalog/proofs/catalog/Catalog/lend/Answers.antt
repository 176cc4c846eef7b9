use Rattle.std.proofs.Common.{sym, subst}
use Rattle.arti_catalog.specs.Held.{Held, AreLive}
use Rattle.arti_catalog.proofs.Forming.{live_have}
use Rattle.arti_catalog.proofs.catalog.Catalog.lend.Goals as goal

pub invariant_of-result : goal.invariant_of-result
invariant_of-result g c =
    let P : Held → Type 0 = λ h. AreLive h.tree c.args.ids.now in
    live_have c.self.inside.parts.tree c.self.inside.parts.rows c.args.ids.now c.self.invariant.0 (subst P (sym c.self.view_is) c.requires)
