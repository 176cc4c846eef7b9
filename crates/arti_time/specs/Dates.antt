-- The texts of dates: `YYYY-MM-DD`, or that with `THH:MM:SS`, a fraction of the second and a zone. A form of this project.
use Rattle.std.specs.Prelude.{◌≡◌, ℕ, ◌+◌, ◌-◌, ◌*◌, ◌≤◌, ◌<◌, Bool, if◌then◌else◌, List, [], ◌∷◌, ◌++◌, length, codes, slice_index, ℤ, pos, neg_ℤ, ◌-ℤ◌, ◌*ℤ◌, All}
use Rattle.std.specs.Char.{IsAsciiDigit}
use Rattle.arti_time.specs.declared.civil.Civil.{Civil}
use Rattle.arti_rows.specs.Moments.{IsMoment}
use Rattle.arti_time.specs.Civil.{IsCivil, time_of_day, moment_of}
use Rattle.arti_time.specs.Printed.{digits, written_date}

-- no zone, `Z`, or hours and minutes east or west of UTC, with a colon between them or without one
pub data Zone : Type 0 where
  Unnamed : Zone
  Zulu : Zone
  East : (colon : Bool) (hours minutes : ℕ) → Zone
  West : (colon : Bool) (hours minutes : ℕ) → Zone

-- a date alone, or one with a time, the digits of the second's fraction (none where it has no fraction) and a zone
pub data DateText : Type 0 where
  Day : (civil : Civil) → DateText
  Time : (civil : Civil) (fraction : List ℕ) (zone : Zone) → DateText

-- hours and minutes of an offset
abbrev pub offset_text : Bool → ℕ → ℕ → List ℕ
offset_text colon hours minutes = digits 2 hours ++ ((if colon then codes ":" else []) ++ digits 2 minutes)

abbrev pub zone_text : Zone → List ℕ
zone_text Unnamed = []
zone_text Zulu = codes "Z"
zone_text (East colon hours minutes) = codes "+" ++ offset_text colon hours minutes
zone_text (West colon hours minutes) = codes "-" ++ offset_text colon hours minutes

abbrev pub fraction_text : List ℕ → List ℕ
fraction_text [] = []
fraction_text (first ∷ more) = codes "." ++ (first ∷ more)

-- hours, minutes and seconds
abbrev pub clock_text : Civil → List ℕ
clock_text c = digits 2 c.hour ++ codes ":" ++ digits 2 c.minute ++ codes ":" ++ digits 2 c.second

abbrev pub date_text : DateText → List ℕ
date_text (Day c) = written_date c.year c.month c.day
date_text (Time c fraction zone) =
    written_date c.year c.month c.day ++ (codes "T" ++ (clock_text c ++ (fraction_text fraction ++ zone_text zone)))

-- how far east of UTC the zone is, in minutes
abbrev pub minutes_east : Zone → ℤ
minutes_east Unnamed = pos 0
minutes_east Zulu = pos 0
minutes_east (East colon hours minutes) = pos (hours * 60 + minutes)
minutes_east (West colon hours minutes) = neg_ℤ (pos (hours * 60 + minutes))

-- the number of the first three digits, zeros standing for those that are missing; digits after the third are dropped
abbrev pub milliseconds_of : List ℕ → ℕ
milliseconds_of ds = (slice_index ds 0 - 48) * 100 + (slice_index ds 1 - 48) * 10 + (slice_index ds 2 - 48)

abbrev pub IsOffset : ℕ → ℕ → Type 0
IsOffset hours minutes = (hours < 24) × (minutes < 60)

abbrev pub IsZone : Zone → Type 0
IsZone Unnamed = Unit {0}
IsZone Zulu = Unit {0}
IsZone (East colon hours minutes) = IsOffset hours minutes
IsZone (West colon hours minutes) = IsOffset hours minutes

-- the calendar has the date, a day has the time, and a date alone is its midnight
abbrev pub IsDateText : DateText → Type 0
IsDateText (Day c) = IsCivil c × (time_of_day c ≡ 0)
IsDateText (Time c fraction zone) =
    IsCivil c × (length fraction ≤ 9) × All IsAsciiDigit fraction × (c.millisecond ≡ milliseconds_of fraction) × IsZone zone

-- the moment that is meant, in milliseconds since 1970-01-01T00:00:00Z
abbrev pub meant : DateText → ℤ
meant (Day c) = moment_of c
meant (Time c fraction zone) = moment_of c -ℤ (minutes_east zone *ℤ pos 60000)

-- the text is a date and means the moment
abbrev pub ReadsDate : List ℕ → ℤ → Type 0
ReadsDate text m = (d : DateText) × IsDateText d × (date_text d ≡ text) × (meant d ≡ m) × IsMoment m
