use Rattle.std.proofs.Common.{List, Option, set, ap, ◌∙◌, arith}
use Rattle.std.specs.Prelude.{Box, map}
use Rattle.std.specs.declared.alloc.Global.{Global}
use Rattle.arti_rows.specs.declared.rows.ItemRow.{ItemRow}
use Rattle.arti_catalog.specs.Boxes.{opened}
use Rattle.arti_catalog.specs.Held.{at}
use Rattle.arti_catalog.proofs.Boxed.{others-opened, gone-opened}
use Rattle.arti_catalog.proofs.rows.Rows.take.Goals as goal

pub returns-clause-others : goal.returns-clause-others
returns-clause-others c = λ i other.
    ap (λ (v : Option (Box ItemRow Global)). at (map opened (set c.self.inside.slots.items c.args.id v)) i) c.take.ensures.after
    ∙ others-opened c.self.inside.slots.items c.args.id i other ∙ ap (λ (l : List (Option ItemRow)). at l i) c.self.view_is

pub returns-clause-gone : goal.returns-clause-gone
returns-clause-gone c =
    ap (λ (v : Option (Box ItemRow Global)). at (map opened (set c.self.inside.slots.items c.args.id v)) c.args.id) c.take.ensures.after
    ∙ gone-opened c.self.inside.slots.items c.args.id (omega (arith, c.if-id-len.false, c.len.ensures, c.self.inside.slots.ok.0))
