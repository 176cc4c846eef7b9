-- Moments as dates and times of day in UTC, by the proleptic Gregorian calendar.
use Rattle.std.specs.Prelude.{ℕ, ◌+◌, ◌*◌, ◌<◌, Bool, ◌&&◌, ℤ, pos, ◌+ℤ◌, ◌*ℤ◌}
use Rattle.std.specs.Int.{is_in_range, IsInRange}
use Rattle.jiff_core.specs.Calendar.{days_in_month, days_from_civil}
use Rattle.arti_time.specs.declared.civil.Civil.{Civil}

-- the calendar has the date, and a day has the time
pub record IsCivil (c : Civil) : Type 0 where
  pub year : IsInRange 1 9999 c.year
  pub month : IsInRange 1 12 c.month
  pub day : IsInRange 1 (days_in_month (pos c.year) c.month) c.day
  pub hour : c.hour < 24
  pub minute : c.minute < 60
  pub second : c.second < 60
  pub millisecond : c.millisecond < 1000

-- the calendar has the date
abbrev pub is_date : (year month day : ℕ) → Bool
is_date year month day =
    is_in_range 1 9999 year && (is_in_range 1 12 month && is_in_range 1 (days_in_month (pos year) month) day)

-- the milliseconds since midnight
abbrev pub time_of_day : Civil → ℕ
time_of_day c = ((c.hour * 60 + c.minute) * 60 + c.second) * 1000 + c.millisecond

-- the day's number, 0 for 1970-01-01
abbrev pub day_number : Civil → ℤ
day_number c = days_from_civil (pos c.year) c.month c.day

-- the moment of that date and time in UTC
abbrev pub moment_of : Civil → ℤ
moment_of c = day_number c *ℤ pos 86400000 +ℤ pos (time_of_day c)
