-- The text of a moment: its date and time in UTC, as `YYYY-MM-DDTHH:MM:SS.mmmZ`.
use Rattle.std.specs.Prelude.{◌≡◌, ℕ, zero, suc, ◌+◌, ◌/◌, ◌%◌, Bool, if◌then◌else◌, List, [], ◌∷◌, ◌++◌, codes, ℤ, pos, ◌-ℤ◌, int_le, unsigned_abs}
use Rattle.std.specs.Int.{int_div_euclid, int_rem_euclid}
use Rattle.jiff_core.specs.Calendar.{days_from_civil}
use Rattle.arti_time.specs.declared.civil.Civil.{Civil}
use Rattle.arti_time.specs.Civil.{IsCivil, moment_of}

-- the last so many decimal digits of a number, with zeros before a shorter one
abbrev pub digits : ℕ → ℕ → List ℕ
digits zero n = []
digits (suc width) n = digits width (n / 10) ++ (48 + n % 10) ∷ []

-- a date as it is written
abbrev pub written_date : (year month day : ℕ) → List ℕ
written_date year month day = digits 4 year ++ codes "-" ++ digits 2 month ++ codes "-" ++ digits 2 day

-- a time of day as it is written
abbrev pub written_time : (hour minute second millisecond : ℕ) → List ℕ
written_time hour minute second millisecond =
    digits 2 hour ++ codes ":" ++ digits 2 minute ++ codes ":" ++ digits 2 second ++ codes "." ++ digits 3 millisecond

-- both, in UTC
abbrev pub written : Civil → List ℕ
written c =
    written_date c.year c.month c.day ++ codes "T" ++ written_time c.hour c.minute c.second c.millisecond ++ codes "Z"

-- the text writes the date and the time of the moment
abbrev pub Prints : ℤ → List ℕ → Type 0
Prints m text = (c : Civil) × IsCivil c × (moment_of c ≡ m) × (written c ≡ text)

-- the greatest number from 1 to the limit that passes the test; 0 where none does
unfoldable pub last_with : (ℕ → Bool) → ℕ → ℕ
last_with test zero = 0
last_with test (suc n) = if test (suc n) then suc n else last_with test n

-- the last year that begins no later than the day
abbrev pub year_at : ℤ → ℕ
year_at day = last_with (λ year. int_le (days_from_civil (pos year) 1 1) day) 9999

-- the last month of the year that begins no later than the day
abbrev pub month_at : ℕ → ℤ → ℕ
month_at year day = last_with (λ month. int_le (days_from_civil (pos year) month 1) day) 12

-- the date of a day, and the time so many milliseconds after midnight
abbrev pub civil_on : ℤ → ℕ → Civil
civil_on day time =
    let year = year_at day in
    let month = month_at year day in
    record {
      year = year;
      month = month;
      day = unsigned_abs (day -ℤ days_from_civil (pos year) month 1) + 1;
      hour = time / 3600000;
      minute = time / 60000 % 60;
      second = time / 1000 % 60;
      millisecond = time % 1000;
    }

-- the date and the time of a moment
unfoldable pub civil_at : ℤ → Civil
civil_at m = civil_on (int_div_euclid m (pos 86400000)) (unsigned_abs (int_rem_euclid m (pos 86400000)))

-- the text of a moment
unfoldable pub printed : ℤ → List ℕ
printed m = written (civil_at m)
