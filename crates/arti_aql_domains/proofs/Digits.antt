-- Numbers of few digits.
use Rattle.std.proofs.Common.{◌≡◌, ℕ, zero, suc, ◌+◌, ◌-◌, ◌<◌, ◌≤◌, ◌^◌, ap, arith}
use Rattle.std.proofs.lemmas.Grind.{pow_more}

pow_ten : (i k : ℕ) → 10 ^ i ≤ 10 ^ (i + k)
pow_ten i zero = let e : i + 0 ≡ i = omega arith in rw e (omega arith)
pow_ten i (suc k) = let e : i + suc k ≡ i + k + 1 = omega arith in rw e (omega (arith, pow_more 10 (i + k), pow_ten i k))

-- so many digits write a number below this
pub digits_small : (v i n : ℕ) → v < 10 ^ i → i ≤ n → v < 10 ^ n
digits_small v i n small few = let e : i + (n - i) ≡ n = omega arith in omega (arith, pow_ten i (n - i), ap (λ (k : ℕ). 10 ^ k) e)
