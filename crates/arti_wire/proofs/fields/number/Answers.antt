use Rattle.std.proofs.Common.{◌≡◌, ◌*◌, ◌+◌, arith}
use Rattle.arti_wire.proofs.DigitLemmas.{next_digit}
use Rattle.arti_wire.proofs.fields.number.Goals as goal

pub overflow_mul-n : goal.overflow_mul-n
overflow_mul-n c =
    let step = next_digit c.args.digits.now c.loop-b.b-index c.requires c.loop-b-test.true in omega arith

pub overflow_add-n : goal.overflow_add-n
overflow_add-n c =
    let step = next_digit c.args.digits.now c.loop-b.b-index c.requires c.loop-b-test.true in omega arith

pub loop-b-preserved : goal.loop-b-preserved
loop-b-preserved c =
    let step = next_digit c.args.digits.now c.loop-b.b-index c.requires c.loop-b-test.true in omega arith
