use Rattle.std.proofs.Common.{rules}
use Rattle.arti_rows.proofs.PropTexts.{values_fault}
use Rattle.arti_rows.proofs.props.add_values.Goals as goal

pub returns-in_err-add_pair-in-Some-clause-bad_props : goal.returns-in_err-add_pair-in-Some-clause-bad_props
returns-in_err-add_pair-in-Some-clause-bad_props c = λ is.
    values_fault c.args.key.now c.args.values.now c.values.rest.now c.in-Some.value.now c.in-Some.after.now c.args.pairs.now.keys c.values.pairs.keys c.in-Some.ensures.split c.values.invariant.good c.values.invariant.more (c.in_err-add_pair-in-Some.ensures.bad_props (search rules))
