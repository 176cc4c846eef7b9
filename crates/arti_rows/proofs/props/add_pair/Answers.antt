use Rattle.std.proofs.Common.{rules, inr}
use Rattle.arti_rows.proofs.props.add_pair.Goals as goal

pub returns-then-len-gt-MOST_PAIRS-clause-bad_props : goal.returns-then-len-gt-MOST_PAIRS-clause-bad_props
returns-then-len-gt-MOST_PAIRS-clause-bad_props c = λ is. inr (search rules)
