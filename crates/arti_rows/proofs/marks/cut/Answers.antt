use Rattle.std.proofs.Common.{rules, arith}
use Rattle.arti_rows.specs.PropTexts.{ends}
use Rattle.arti_rows.proofs.PropTexts.{blank, cut_at, uncut, none_more}
use Rattle.arti_rows.proofs.marks.cut.Goals as goal

pub returns-then-ends-clause-any : goal.returns-then-ends-clause-any
returns-then-ends-clause-any c = (cut_at (ends c.args.c) c.args.marks.now c.loop-i.i blank c.loop-i-test.true c.loop-i.invariant (search rules)).2

pub returns-then-ends-clause-parts : goal.returns-then-ends-clause-parts
returns-then-ends-clause-parts c = let at = cut_at (ends c.args.c) c.args.marks.now c.loop-i.i blank c.loop-i-test.true c.loop-i.invariant (search rules) in (at.0, at.1)

pub returns-then-ends-clause-split : goal.returns-then-ends-clause-split
returns-then-ends-clause-split c = (cut_at (ends c.args.c) c.args.marks.now c.loop-i.i blank c.loop-i-test.true c.loop-i.invariant (search rules)).3

pub loop-i-preserved : goal.loop-i-preserved
loop-i-preserved c = none_more (ends c.args.c) c.args.marks.now c.loop-i.i c.loop-i-test.true c.loop-i.invariant (search rules)

pub returns-clause-any : goal.returns-clause-any
returns-clause-any c = (uncut (ends c.args.c) c.args.marks.now (λ k e under. c.loop-i.invariant k e (omega (arith, under, c.loop-i-test.false)))).0

pub returns-clause-split : goal.returns-clause-split
returns-clause-split c = (uncut (ends c.args.c) c.args.marks.now (λ k e under. c.loop-i.invariant k e (omega (arith, under, c.loop-i-test.false)))).1
