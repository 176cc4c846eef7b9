use Rattle.std.proofs.Common.{◌<◌, ◌^◌, arith}
use Rattle.arti_aql_domains.proofs.Digits.{digits_small}
use Rattle.arti_aql_domains.proofs.values.digits_value.Goals as goal

pub overflow_mul-value : goal.overflow_mul-value
overflow_mul-value c = let small : c.loop-digit.value < 10 ^ 17 = digits_small c.loop-digit.value c.loop-digit.digit-index 17 c.loop-digit.invariant.small (omega arith) in omega arith

pub overflow_add-value : goal.overflow_add-value
overflow_add-value c = let small : c.loop-digit.value < 10 ^ 17 = digits_small c.loop-digit.value c.loop-digit.digit-index 17 c.loop-digit.invariant.small (omega arith) in omega arith

pub returns-clause-small : goal.returns-clause-small
returns-clause-small c = digits_small c.loop-digit.value c.loop-digit.digit-index 18 c.loop-digit.invariant.small (omega arith)
