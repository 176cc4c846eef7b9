use Rattle.std.proofs.Common.{rules}
use Rattle.arti_rows.proofs.PropTexts.{pieces_fault}
use Rattle.arti_rows.proofs.props.add_pieces.Goals as goal

pub returns-in_err-add_piece-in-Some-clause-bad_props : goal.returns-in_err-add_piece-in-Some-clause-bad_props
returns-in_err-add_piece-in-Some-clause-bad_props c = λ is.
    pieces_fault c.args.marks.now c.pieces.rest.now c.in-Some.piece.now c.in-Some.after.now c.args.pairs.now.keys c.pieces.pairs.keys c.in-Some.ensures.split c.pieces.invariant.good c.pieces.invariant.more (c.in_err-add_piece-in-Some.ensures.bad_props (search rules))
