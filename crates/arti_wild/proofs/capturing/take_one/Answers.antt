use Rattle.std.proofs.Common.{arith}
use Rattle.arti_wild.proofs.RowLemmas.{single_row}
use Rattle.arti_wild.proofs.capturing.take_one.Goals as goal

pub returns : goal.returns
returns c =
    single_row c.args.part c.args.text.now c.args.row.now c.places.row c.requires.part c.places.invariant.len
    (λ k h. c.places.invariant.done k (omega (arith, c.places-test.false))) c.requires.places
