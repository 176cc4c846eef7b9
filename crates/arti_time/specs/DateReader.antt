-- How the text of a date is read from its front.
use Rattle.std.specs.Prelude.{ℕ, ◌+◌, ◌*◌, ◌&&◌, ◌||◌, ◌==◌, nat_lt, if◌then◌else◌, List, [], ◌∷◌, take, drop, Option, Some, None, ℤ, pos, neg_ℤ, ◌-ℤ◌, ◌*ℤ◌}
use Rattle.std.specs.List.{prefix_len}
use Rattle.std.specs.Char.{is_ascii_digit}
use Rattle.arti_rows.specs.Moments.{is_moment}
use Rattle.arti_time.specs.declared.civil.Civil.{Civil}
use Rattle.arti_time.specs.Civil.{is_date, moment_of}
use Rattle.arti_time.specs.Dates.{milliseconds_of}
use Rattle.arti_time.specs.Front.{Front, ◌>>=◌, two_digits, four_digits, after}

-- midnight of a date, if the calendar has it
unfoldable pub midnight : ℕ → ℕ → ℕ → Option Civil
midnight year month day =
    if is_date year month day
    then Some (record { year = year; month = month; day = day; hour = 0; minute = 0; second = 0; millisecond = 0 })
    else None

-- a date
unfoldable pub date_front : List ℕ → Front Civil
date_front text = do
  year ← four_digits text
  month_text ← after 45 year.1
  month ← two_digits month_text
  day_text ← after 45 month.1
  day ← two_digits day_text
  civil ← midnight year.0 month.0 day.0
  Some (civil, day.1)

-- the milliseconds of a fraction, if the text has one there
unfoldable pub fraction_front : List ℕ → Front ℕ
fraction_front [] = Some (0, [])
fraction_front (mark ∷ rest) =
    if mark == 46
    then (let len = prefix_len is_ascii_digit rest in if (len == 0) || nat_lt 9 len then None else Some (milliseconds_of (take len rest), drop len rest))
    else Some (0, mark ∷ rest)

-- the date with that time, if a day has it
unfoldable pub at_time : Civil → ℕ → ℕ → ℕ → ℕ → Option Civil
at_time c hour minute second millisecond =
    if nat_lt hour 24 && (nat_lt minute 60 && nat_lt second 60)
    then Some (record c { hour = hour; minute = minute; second = second; millisecond = millisecond })
    else None

-- a time of day, of that date
unfoldable pub time_front : Civil → List ℕ → Front Civil
time_front c text = do
  hour ← two_digits text
  minute_text ← after 58 hour.1
  minute ← two_digits minute_text
  second_text ← after 58 minute.1
  second ← two_digits second_text
  millisecond ← fraction_front second.1
  civil ← at_time c hour.0 minute.0 second.0 millisecond.0
  Some (civil, millisecond.1)

-- a colon may stand there
unfoldable pub skip_colon : List ℕ → List ℕ
skip_colon [] = []
skip_colon (first ∷ rest) = if first == 58 then rest else first ∷ rest

-- hours and minutes as minutes, if they are in range and nothing follows
unfoldable pub whole_offset : ℕ → ℕ → List ℕ → Option ℕ
whole_offset hours minutes [] = if nat_lt hours 24 && nat_lt minutes 60 then Some (hours * 60 + minutes) else None
whole_offset hours minutes (next ∷ rest) = None

-- the minutes of an offset, if that is all
unfoldable pub offset_minutes : List ℕ → Option ℕ
offset_minutes text = do
  hours ← two_digits text
  minutes ← two_digits (skip_colon hours.1)
  whole_offset hours.0 minutes.0 minutes.1

-- `Z` alone
unfoldable pub only_zulu : ℕ → List ℕ → Option ℤ
only_zulu sign [] = if sign == 90 then Some (pos 0) else None
only_zulu sign (next ∷ rest) = None

-- how far east of UTC the zone is, in minutes, if that is all
unfoldable pub zone_east : List ℕ → Option ℤ
zone_east [] = Some (pos 0)
zone_east (sign ∷ rest) =
    if sign == 43 then (do
      minutes ← offset_minutes rest
      Some (pos minutes))
    else (if sign == 45 then (do
      minutes ← offset_minutes rest
      Some (neg_ℤ (pos minutes)))
    else only_zulu sign rest)

-- a time of day and a zone, if that is all
unfoldable pub clock_and_zone : Civil → List ℕ → Option (Civil × ℤ)
clock_and_zone c text = do
  civil ← time_front c text
  east ← zone_east civil.1
  Some (civil.0, east)

-- what stands after a date: nothing, or a time and a zone
unfoldable pub time_and_zone : Civil → List ℕ → Option (Civil × ℤ)
time_and_zone c [] = Some (c, pos 0)
time_and_zone c (mark ∷ rest) = if mark == 84 then clock_and_zone c rest else None

-- a number of milliseconds, if it is a moment
abbrev pub moment_at : ℤ → Option ℤ
moment_at m = if is_moment m then Some m else None

-- the moment that a text means, if it is a date
unfoldable pub date_of : List ℕ → Option ℤ
date_of text = do
  date ← date_front text
  time ← time_and_zone date.0 date.1
  moment_at (moment_of time.0 -ℤ (time.1 *ℤ pos 60000))
