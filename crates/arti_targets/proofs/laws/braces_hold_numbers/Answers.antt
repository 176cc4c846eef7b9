use Rattle.arti_targets.proofs.LawLemmas.{plain, one, two, three, four}
use Rattle.arti_targets.proofs.laws.braces_hold_numbers.Goals as goal

pub returns-clause-plain : goal.returns-clause-plain
returns-clause-plain c = plain

pub returns-clause-one : goal.returns-clause-one
returns-clause-one c = one

pub returns-clause-two : goal.returns-clause-two
returns-clause-two c = two

pub returns-clause-three : goal.returns-clause-three
returns-clause-three c = three

pub returns-clause-four : goal.returns-clause-four
returns-clause-four c = four
