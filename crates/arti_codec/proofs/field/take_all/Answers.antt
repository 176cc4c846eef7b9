use Rattle.std.proofs.Common.{arith}
use Rattle.std.proofs.lemmas.Result.{err_from_is_err_and}
use Rattle.arti_codec.proofs.Loops.{goes_on, is_done, stops}
use Rattle.arti_codec.proofs.field.take_all.Goals as goal

pub returns-in_err-take : goal.returns-in_err-take
returns-in_err-take g c =
    let p = err_from_is_err_and c.from_residual-in_err-take.result c.from_residual-in_err-take.ensures.1 in
    rw (p.1, p.2) (stops g.T.Field.read c.loop.items c.args.count c.loop.counter c.loop.reader c.take.new.reader _ c.in_err-take.field-0.0 (omega (arith, c.loop-test.true)) c.in_err-take.ensures c.loop.invariant)

pub loop-preserved : goal.loop-preserved
loop-preserved g c =
    rw c.in_ok-push.ensures.ok (goes_on g.T.Field.read c.loop.items c.args.count c.loop.counter c.loop.reader c.take.new.reader c.in_ok-take.field-0 _ (omega (arith, c.loop-test.true)) c.in_ok-take.ensures c.loop.invariant)

pub returns : goal.returns
returns g c = is_done g.T.Field.read c.loop.items c.args.count c.loop.counter c.loop.reader _ (omega (arith, c.loop-test.false)) c.loop.invariant
