use Rattle.arti_wild.proofs.RowLemmas.{no_parts_row}
use Rattle.std.proofs.Common.{◌∙◌, arith, eq-eqb, refl}
use Rattle.std.proofs.lemmas.Bool.{ne_eqb}
use Rattle.arti_wild.proofs.capturing.end_row.Goals as goal

pub returns : goal.returns
returns c = λ text size. no_parts_row text c.places.row.items c.args.len (omega (arith, c.places.invariant.0)) size
    (λ k h. c.places.invariant.1 k (omega arith) ∙ ne_eqb k c.args.len (λ e. omega arith))
    (c.places.invariant.1 c.args.len (omega arith) ∙ eq-eqb c.args.len c.args.len refl)
