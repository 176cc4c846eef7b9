use Rattle.std.proofs.Common.{ℤ, pos, negsuc, ◌<◌, arith}
use Rattle.std.specs.Int.{w64, cast_unsigned}
use Rattle.std.proofs.lemmas.Int.{ints}
use Rattle.arti_rows.specs.Moments.{IsMoment}
use Rattle.arti_codec.specs.Format.{number}
use Rattle.arti_codec.specs.ChangeBytes.{moment}
use Rattle.arti_moves.proofs.bytes.moment_has_bytes.Goals as goal

fits : (ms : ℤ) → IsMoment ms → cast_unsigned w64 ms < 18446744073709551616
fits (pos n) h = omega (arith, ints, h.1)
fits (negsuc n) h = omega (arith, ints, h.0)

pub returns : goal.returns
unfolding moment number
returns c = (fits c.args.value c.ms.ensures.range, c.ms.ensures.range)
