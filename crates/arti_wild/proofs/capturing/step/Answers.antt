use Rattle.std.proofs.Common.{sym, ◌∙◌}
use Rattle.std.specs.Prelude.{reverse}
use Rattle.arti_wild.proofs.RowLemmas.{mark_row, mark_places, single_places}
use Rattle.arti_wild.proofs.capturing.step.Goals as goal

pub returns-then-is_single-clause-alive : goal.returns-then-is_single-clause-alive
returns-then-is_single-clause-alive c = λ parts alive is are.
    (c.take_one.ensures parts is, single_places c.args.part parts c.args.text.now (reverse c.args.places.now.items) (sym c.is_single.ensures ∙ c.if-is_single.true) are)

pub returns-in_default-clause-alive : goal.returns-in_default-clause-alive
returns-in_default-clause-alive c = λ parts alive is are.
    let plain = sym c.is_single.ensures ∙ c.if-is_single.false in
    (mark_row c.args.part parts c.args.text.now c.args.row.now plain c.in_default.not-Star is, mark_places c.args.part parts c.args.text.now (reverse c.args.places.now.items) plain c.in_default.not-Star are)
