use Rattle.arti_rows.specs.CutLaws.{cut_by_match, uncut_by_match}
use Rattle.arti_tree.proofs.searching.cut.Goals as goal

pub returns-in-Some-clause-path : goal.returns-in-Some-clause-path
returns-in-Some-clause-path c = (cut_by_match c.args.whole.now c.in-Some.parts.0.now c.in-Some.parts.1.now c.in-Some.ensures.cases).0

pub returns-in-Some-clause-name : goal.returns-in-Some-clause-name
returns-in-Some-clause-name c = (cut_by_match c.args.whole.now c.in-Some.parts.0.now c.in-Some.parts.1.now c.in-Some.ensures.cases).1

pub returns-in-None-clause-path : goal.returns-in-None-clause-path
returns-in-None-clause-path c = (uncut_by_match c.args.whole.now c.in-None.ensures.cases).0

pub returns-in-None-clause-name : goal.returns-in-None-clause-name
returns-in-None-clause-name c = (uncut_by_match c.args.whole.now c.in-None.ensures.cases).1
