-- Moments as numbers of milliseconds since 1970-01-01T00:00:00Z.
use Rattle.std.specs.Prelude.{Bool, nat_le, ℤ, pos, negsuc, ◌≤ℤ◌}

-- 0001-01-01T00:00:00.000Z
abbrev pub least_moment : ℤ
least_moment = negsuc 62135596799999

-- 9999-12-31T23:59:59.999Z
abbrev pub greatest_moment : ℤ
greatest_moment = pos 253402300799999

-- within the years 1 to 9999
abbrev pub IsMoment : ℤ → Type 0
IsMoment ms = (least_moment ≤ℤ ms) × (ms ≤ℤ greatest_moment)

-- whether a number is one
abbrev pub is_moment : ℤ → Bool
is_moment (pos n) = nat_le n 253402300799999
is_moment (negsuc n) = nat_le n 62135596799999
