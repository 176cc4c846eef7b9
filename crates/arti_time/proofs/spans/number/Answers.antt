use Rattle.arti_time.proofs.SpanLemmas.{number_more, number_bound}
use Rattle.std.proofs.Common.{arith}
use Rattle.arti_time.proofs.spans.number.Goals as goal

pub loop-digit-preserved : goal.loop-digit-preserved
loop-digit-preserved c =
    number_more c.args.digits.now c.loop-digit.digit-index c.loop-digit.n c.from.result c.loop-digit-test.true (c.requires.digits c.loop-digit.digit-index c.loop-digit-test.true) c.from.ensures c.loop-digit.invariant.0 c.loop-digit.invariant.1

pub returns-clause-bound : goal.returns-clause-bound
returns-clause-bound c = number_bound c.loop-digit.n c.loop-digit.digit-index (omega arith) c.loop-digit.invariant.1
