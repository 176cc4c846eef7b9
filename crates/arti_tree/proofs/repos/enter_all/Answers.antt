use Rattle.std.proofs.Common.{arith}
use Rattle.std.proofs.lemmas.Map.Text.{text_keys}
use Rattle.arti_tree.proofs.repos.enter_all.Goals as goal

pub returns-in-Err-clause-unchanged : goal.returns-in-Err-clause-unchanged
returns-in-Err-clause-unchanged c = λ q. grind (arith, text_keys)

pub returns-in-Some-clause-more : goal.returns-in-Some-clause-more
returns-in-Some-clause-more c = λ q. grind (arith, text_keys)

pub returns-clause-more : goal.returns-clause-more
returns-clause-more c = λ q. grind (arith, text_keys)
