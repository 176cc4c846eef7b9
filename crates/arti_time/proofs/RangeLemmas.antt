-- Tests of dates and moments, and the range of days.
use Rattle.std.proofs.Common.{◌≡◌, ◌↔◌, ℕ, ◌<◌, ◌≤◌, Bool, true, false, cond, Option, Some, None, IsSome, IfSome, refl, ap, arith, ℤ, pos, negsuc, ◌≤ℤ◌, to_z, w8, w16}
use Rattle.std.proofs.lemmas.Bool.{false≢true}
use Rattle.std.specs.Bool.{Decides}
use Rattle.std.specs.Int.{is_in_range, IsInRange}
use Rattle.std.proofs.lemmas.Bool.Decides.{nat_tests, Decides-and, same_from_decides, Decides-like}
use Rattle.std.proofs.lemmas.Int.{by_lt_z}
use Rattle.jiff_core.specs.Calendar.{days_in_month, day_count, IsDate}
use Rattle.jiff_core.proofs.SignedLemmas.{signed_arith}
use Rattle.jiff_core.proofs.CalendarLemmas.{days_from_civil-day_count, day_count_bounds, day_count-later_year, day_count-day_of_year}
use mir.Facts.{to_z_pos}
use Rattle.arti_time.specs.declared.civil.Civil.{Civil}
use Rattle.arti_rows.specs.Moments.{IsMoment, is_moment}
use Rattle.arti_rows.specs.MomentLaws.{is_moment-true, IsMoment-passes}
use Rattle.arti_time.specs.Civil.{IsCivil, is_date, day_number}
use Rattle.arti_time.specs.DateReader.{moment_at}
use Rattle.arti_time.proofs.CivilLemmas.{day_count-first_year}
use Rattle.arti_time.proofs.PrintedLemmas.{calendar}

in_range : (low high n : ℕ) → Decides (is_in_range low high n) (IsInRange low high n)
in_range low high n = ((λ e. grind (arith, nat_tests)), (λ h. grind (arith, nat_tests)))

-- the three parts of a date of the calendar
abbrev pub HasDate : ℕ → ℕ → ℕ → Type 0
HasDate year month day = IsInRange 1 9999 year × (IsInRange 1 12 month × IsInRange 1 (days_in_month (pos year) month) day)

pub is_date_tells : (year month day : ℕ) → Decides (is_date year month day) (HasDate year month day)
is_date_tells year month day =
    Decides-and _ _ (in_range 1 9999 year) (Decides-and _ _ (in_range 1 12 month) (in_range 1 (days_in_month (pos year) month) day))

has_date : (year month day : ℕ) → 1 ≤ year → IsDate (pos year) (pos month) (pos day) → HasDate year month day
has_date year month day low h =
    ((low, omega (arith, signed_arith, h.0)), ((omega (arith, signed_arith, h.1), omega (arith, signed_arith, h.1)), (omega (arith, signed_arith, h.2), omega (arith, signed_arith, h.2))))

from_date : (year month day : ℕ) → HasDate year month day → IsDate (pos year) (pos month) (pos day)
from_date year month day h =
    ((omega (arith, signed_arith, h.0), omega (arith, signed_arith, h.0)), (omega (arith, signed_arith, h.1.0), omega (arith, signed_arith, h.1.0)), (omega (arith, signed_arith, h.1.1), omega (arith, signed_arith, h.1.1)))

-- what the test of the calendar's library says, after the casts of the code
pub is_date_is : (year month day : ℕ) (found : Bool) → 1 ≤ year → year < 10000 → month < 100 → day < 100 → Decides found (IsDate (to_z w16 year) (to_z w8 month) (to_z w8 day)) → found ≡ is_date year month day
is_date_is year month day found low y m d h =
    let ey : to_z w16 year ≡ pos year = to_z_pos w16 (omega arith) in
    let em : to_z w8 month ≡ pos month = to_z_pos w8 (omega arith) in
    let ed : to_z w8 day ≡ pos day = to_z_pos w8 (omega arith) in
    let plain : Decides found (IsDate (pos year) (pos month) (pos day)) =
    rw (ey, em, ed) at h in
    same_from_decides found (is_date year month day) (Decides-like found (has_date year month day low) (from_date year month day) plain) (is_date_tells year month day)

-- a date of the years 1 to 9999 is no earlier than the first day and no later than the last
pub day_least : (c : Civil) → IsCivil c → 3_652_791 ≤ day_count (pos c.year) c.month c.day
day_least c h =
    let first : 3_652_791 ≤ day_count (pos c.year) 1 1 = by_lt_z (pos 1) (pos c.year)
    (λ lt. omega (arith, day_count-first_year, day_count-later_year (pos 1) (pos c.year) (omega (arith, signed_arith)) lt))
    (λ ge. let e : c.year ≡ 1 = omega (arith, signed_arith, h.year) in rw e (omega (arith, day_count-first_year))) in
    omega (arith, day_count-day_of_year (pos c.year) c.month c.day h.day.0, h.day)

pub day_number_range : (c : Civil) → IsCivil c → (negsuc 719161 ≤ℤ day_number c) × (day_number c ≤ℤ pos 2932896)
day_number_range c h =
    let count = days_from_civil-day_count (pos c.year) c.month c.day in
    (omega (arith, signed_arith, count, day_least c h), omega (arith, signed_arith, count, day_count_bounds (pos c.year) c.month c.day (calendar c h)))

pub in_moments : (m : ℤ) → Decides (is_moment m) (IsMoment m)
in_moments m = (is_moment-true m, IsMoment-passes m)

pick : (r : Option ℤ) (m : ℤ) (b : Bool) → Decides b (IsMoment m) → (IsSome r ↔ IsMoment m) → IfSome r (λ v. v ≡ m) → r ≡ cond b (Some m) None
pick None m true tells some value = absurd (false≢true (some.1 (tells.0 refl)))
pick None m false tells some value = refl
pick (Some v) m true tells some value = ap Some value
pick (Some v) m false tells some value = absurd (false≢true (tells.1 (some.0 refl)))

pub moment_at_is : (r : Option ℤ) (m : ℤ) → (IsSome r ↔ IsMoment m) → IfSome r (λ v. v ≡ m) → r ≡ moment_at m
moment_at_is r m some value = pick r m _ (in_moments m) some value
