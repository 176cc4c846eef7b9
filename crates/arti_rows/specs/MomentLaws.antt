-- Whether a number is a moment, decided.
use Rattle.std.proofs.Common.{◌≡◌, true, arith}
use Rattle.std.specs.Prelude.{ℤ, pos, negsuc}
use Rattle.std.proofs.lemmas.Bool.{leb-true, le-leb}
use Rattle.std.proofs.lemmas.Int.{ints}
use Rattle.arti_rows.specs.Moments.{IsMoment, is_moment}

pub is_moment-true : (ms : ℤ) → is_moment ms ≡ true → IsMoment ms
is_moment-true (pos n) e = let h = leb-true n 253402300799999 e in (omega (arith, ints), omega (arith, ints))
is_moment-true (negsuc n) e = let h = leb-true n 62135596799999 e in (omega (arith, ints), omega (arith, ints))

pub IsMoment-passes : (ms : ℤ) → IsMoment ms → is_moment ms ≡ true
IsMoment-passes (pos n) h = le-leb n 253402300799999 (omega (arith, ints, h.1))
IsMoment-passes (negsuc n) h = le-leb n 62135596799999 (omega (arith, ints, h.0))
