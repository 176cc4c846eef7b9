-- Each moment has one date and time, and `civil_at` gives it.
use Rattle.std.proofs.Common.{◌≡◌, ⊎_elim, ℕ, zero, suc, ◌+◌, ◌*◌, ◌/◌, ◌%◌, ◌<◌, ◌≤◌, Bool, true, false, cond, refl, sym, ap, ◌∙◌, subst, arith, ℤ, pos, negsuc, ◌+ℤ◌, ◌-ℤ◌, ◌*ℤ◌, ◌≤ℤ◌, unsigned_abs, int_le}
use Rattle.std.proofs.lemmas.Bool.{cases_order}
use Rattle.std.proofs.lemmas.Int.{by_lt_z}
use Rattle.std.specs.Int.{int_div_euclid, int_rem_euclid, IsInRange}
use Rattle.jiff_core.specs.declared.civil.date.Date.{Date}
use Rattle.jiff_core.specs.Calendar.{days_in_year, days_in_month, day_count, days_from_civil}
use Rattle.jiff_core.specs.Date.{epoch_day}
use Rattle.jiff_core.proofs.SignedLemmas.{signed_arith}
use Rattle.jiff_core.proofs.MarchLemmas.{day_count-early}
use Rattle.jiff_core.proofs.CalendarLemmas.{days_from_civil-day_count, days_in_month_bounds, day_count-lt_year, day_count-day, day_count-next_month, day_count-next_year, day_count-last_of_year, day_count-end}
use Rattle.jiff_core.proofs.DateLemmas.{civil}
use borrow.Author.Differences.{up, down}
use Rattle.arti_rows.specs.Moments.{IsMoment}
use Rattle.arti_time.specs.Civil.{IsCivil, moment_of}
use Rattle.arti_time.specs.Printed.{last_with, year_at, month_at, civil_on, civil_at}

-- 1 January of the year 1
pub day_count-first_year : day_count (pos 1) 1 1 ≡ 3_652_791
day_count-first_year = day_count-early (pos 1) 10000 1 1 refl (omega arith) (omega arith) (omega arith)

-- a day of a moment lies in the year 1 or later
pub year_from_one : (d : Date) → negsuc 719161 ≤ℤ epoch_day d → pos 1 ≤ℤ d.year
year_from_one d h =
    by_lt_z d.year (pos 1)
    (λ lt. absurd (omega (arith, signed_arith, days_from_civil-day_count, day_count-first_year, day_count-lt_year d.year d.month d.day (pos 1) 1 1 (civil d) (omega arith) lt)))
    (λ ge. ge)

-- what is found passes the test, and what lies above it does not
pub record IsLast (test : ℕ → Bool) (limit n : ℕ) : Type 0 where
  pub within : n ≤ limit
  pub passes : 0 < n → test n ≡ true
  pub above : (k : ℕ) → n < k → k ≤ limit → test k ≡ false

last_step : (test : ℕ → Bool) (limit : ℕ) (b : Bool) → test (suc limit) ≡ b → IsLast test limit (last_with test limit) → IsLast test (suc limit) (cond b (suc limit) (last_with test limit))
last_step test limit true e h = record {
  within = omega arith;
  passes = λ some. e;
  above = λ k low high. absurd (omega arith);
}
last_step test limit false e h = record {
  within = omega (arith, h.within);
  passes = h.passes;
  above = λ k low high. ⊎_elim (λ (same : k ≡ suc limit). ap test same ∙ e)
      (λ other. ⊎_elim (λ (lt : k < suc limit). h.above k low (omega arith)) (λ (gt : suc limit < k). absurd (omega arith)) other) (cases_order k (suc limit));
}

pub last_with_is : (test : ℕ → Bool) (limit : ℕ) → IsLast test limit (last_with test limit)
unfolding last_with
last_with_is test zero = record {
  within = omega arith;
  passes = λ some. absurd (omega arith);
  above = λ k low high. absurd (omega arith);
}
last_with_is test (suc limit) = last_step test limit (test (suc limit)) refl (last_with_is test limit)

-- the tests of `year_at` and `month_at`, as facts on day counts
begins-true : (day : ℤ) (y : ℤ) (m : ℕ) → int_le (days_from_civil y m 1) day ≡ true → day_count y m 1 + down day ≤ up day + 4_371_953
begins-true day y m e = omega (arith, signed_arith, days_from_civil-day_count)

begins-false : (day : ℤ) (y : ℤ) (m : ℕ) → int_le (days_from_civil y m 1) day ≡ false → up day + 4_371_953 < day_count y m 1 + down day
begins-false day y m e = omega (arith, signed_arith, days_from_civil-day_count)

-- a day of a moment
abbrev IsDay : ℤ → Type 0
IsDay day = (negsuc 719161 ≤ℤ day) × (day ≤ℤ pos 2932896)

-- the year that is found has the day
record HasYear (day : ℤ) (y : ℕ) : Type 0 where
  from_one : 1 ≤ y
  to_last : y ≤ 9999
  begun : day_count (pos y) 1 1 + down day ≤ up day + 4_371_953
  not_over : up day + 4_371_953 < day_count (pos y) 1 1 + days_in_year (pos y) + down day

next_year_begins : (y : ℕ) → day_count (pos (suc y)) 1 1 ≡ day_count (pos y) 1 1 + days_in_year (pos y)
next_year_begins y = day_count-next_year (pos y) (pos (suc y)) (omega (arith, signed_arith)) (omega (arith, signed_arith))

year_found : (day : ℤ) (y : ℕ) → IsDay day → IsLast (λ year. int_le (days_from_civil (pos year) 1 1) day) 9999 y → HasYear day y
year_found day zero h last = absurd (omega (arith, signed_arith, day_count-first_year, begins-false day (pos 1) 1 (last.above 1 (omega arith) (omega arith))))
year_found day (suc y) h last =
    let begun = begins-true day (pos (suc y)) 1 (last.passes (omega arith)) in
    record {
      from_one = omega arith;
      to_last = last.within;
      begun = begun;
      not_over = ⊎_elim
          (λ (same : suc y ≡ 9999). rw same (omega (arith, signed_arith, day_count-end, next_year_begins 9999)))
          (λ other. ⊎_elim
          (λ (lt : suc y < 9999). omega (arith, next_year_begins (suc y), begins-false day (pos (suc (suc y))) 1 (last.above (suc (suc y)) (omega arith) (omega arith))))
          (λ (gt : 9999 < suc y). absurd (omega (arith, last.within))) other)
          (cases_order (suc y) 9999);
    }

next_month_begins : (y : ℤ) (m : ℕ) → day_count y (suc (suc m)) 1 ≡ day_count y (suc m) 1 + days_in_month y (suc m)
next_month_begins y m =
    let e : suc m + 1 ≡ suc (suc m) = omega arith in
    rw e at (day_count-next_month y (suc m) (omega arith))

-- the month that is found has the day
record HasMonth (day : ℤ) (y : ℤ) (m : ℕ) : Type 0 where
  from_one : 1 ≤ m
  to_last : m ≤ 12
  begun : day_count y m 1 + down day ≤ up day + 4_371_953
  not_over : up day + 4_371_953 < day_count y m 1 + days_in_month y m + down day

month_found : (day : ℤ) (y m : ℕ) → HasYear day y → IsLast (λ month. int_le (days_from_civil (pos y) month 1) day) 12 m → HasMonth day (pos y) m
month_found day y zero h last = absurd (omega (arith, h.begun, begins-false day (pos y) 1 (last.above 1 (omega arith) (omega arith))))
month_found day y (suc m) h last =
    let begun = begins-true day (pos y) (suc m) (last.passes (omega arith)) in
    let size = days_in_month_bounds (pos y) 12 in
    record {
      from_one = omega arith;
      to_last = last.within;
      begun = begun;
      not_over = ⊎_elim
          (λ (same : suc m ≡ 12). rw same (omega (arith, h.not_over, day_count-last_of_year (pos y), day_count-day (pos y) 12 1 31 (omega arith) (omega arith))))
          (λ other. ⊎_elim
          (λ (lt : suc m < 12). omega (arith, next_month_begins (pos y) m, begins-false day (pos y) (suc (suc m)) (last.above (suc (suc m)) (omega arith) (omega arith))))
          (λ (gt : 12 < suc m). absurd (omega (arith, last.within))) other)
          (cases_order (suc m) 12);
    }

-- a moment's day and time make the moment
parts_of : (m : ℤ) → int_div_euclid m (pos 86400000) *ℤ pos 86400000 +ℤ pos (unsigned_abs (int_rem_euclid m (pos 86400000))) ≡ m
parts_of m = omega (arith, signed_arith)

time_bound : (m : ℤ) → unsigned_abs (int_rem_euclid m (pos 86400000)) < 86400000
time_bound m = omega (arith, signed_arith)

day_range : (m day : ℤ) (time : ℕ) → IsMoment m → time < 86400000 → day *ℤ pos 86400000 +ℤ pos time ≡ m → IsDay day
day_range m day time h small e = (omega (arith, signed_arith), omega (arith, signed_arith))

pub year_of_moment : (d : Date) (time : ℕ) (m : ℤ) → IsMoment m → time < 86400000 → epoch_day d *ℤ pos 86400000 +ℤ pos time ≡ m → pos 1 ≤ℤ d.year
year_of_moment d time m h small e = year_from_one d (day_range m (epoch_day d) time h small e).0

-- the date and the time, as the code computes them
pub civil_is : (d : Date) (year time : ℕ) → pos year ≡ d.year → pos 1 ≤ℤ d.year → time < 86400000 → IsCivil (record { year = year; month = d.month; day = d.day; hour = time / 3600000; minute = time / 60000 % 60; second = time / 1000 % 60; millisecond = time % 1000 })
civil_is d year time e low small = record {
  year = (omega (arith, signed_arith), omega (arith, signed_arith, d.year_in));
  month = d.month_in;
  day = subst (λ (y : ℤ). IsInRange 1 (days_in_month y d.month) d.day) (sym e) d.day_in;
  hour = omega arith;
  minute = omega arith;
  second = omega arith;
  millisecond = omega arith;
}

pub moment_is : (d : Date) (year time : ℕ) → pos year ≡ d.year → time < 86400000 → moment_of (record { year = year; month = d.month; day = d.day; hour = time / 3600000; minute = time / 60000 % 60; second = time / 1000 % 60; millisecond = time % 1000 }) ≡ epoch_day d *ℤ pos 86400000 +ℤ pos time
moment_is d year time e small =
    let clock : ((time / 3600000 * 60 + time / 60000 % 60) * 60 + time / 1000 % 60) * 1000 + time % 1000 ≡ time = omega arith in
    rw (e, clock) refl

-- the day of the month that is found
abbrev day_at : ℤ → ℕ → ℕ → ℕ
day_at day y m = unsigned_abs (day -ℤ days_from_civil (pos y) m 1) + 1

abs_of : (z : ℤ) → pos 0 ≤ℤ z → pos (unsigned_abs z) ≡ z
abs_of (pos n) h = refl
abs_of (negsuc n) h = absurd (omega (arith, signed_arith))

day_count_found : (day : ℤ) (y m : ℕ) → HasMonth day (pos y) m → day_count (pos y) m (day_at day y m) + down day ≡ up day + 4_371_953
day_count_found day y m h =
    let first = days_from_civil-day_count (pos y) m 1 in
    let since = day -ℤ days_from_civil (pos y) m 1 in
    let e : pos (unsigned_abs since) ≡ since = abs_of since (omega (arith, signed_arith, h.begun, first)) in
    omega (arith, signed_arith, h.begun, e, first, day_count-day (pos y) m 1 (unsigned_abs since + 1) (omega arith) (omega arith))

day_found : (day : ℤ) (y m : ℕ) → HasMonth day (pos y) m → days_from_civil (pos y) m (day_at day y m) ≡ day
day_found day y m h =
    omega (arith, signed_arith, day_count_found day y m h, days_from_civil-day_count (pos y) m (day_at day y m))

day_in_month : (day : ℤ) (y m : ℕ) → HasMonth day (pos y) m → day_at day y m ≤ days_in_month (pos y) m
day_in_month day y m h =
    omega (arith, signed_arith, h.not_over, day_count_found day y m h, day_count-day (pos y) m 1 (day_at day y m) (omega arith) (omega arith))

civil_found : (day : ℤ) (time : ℕ) → IsDay day → time < 86400000 → IsCivil (civil_on day time) × (moment_of (civil_on day time) ≡ day *ℤ pos 86400000 +ℤ pos time)
civil_found day time h small =
    let y = year_at day in
    let m = month_at y day in
    let year = year_found day y h (last_with_is _ 9999) in
    let month = month_found day y m year (last_with_is _ 12) in
    let clock : ((time / 3600000 * 60 + time / 60000 % 60) * 60 + time / 1000 % 60) * 1000 + time % 1000 ≡ time = omega arith in (
      record {
        year = (year.from_one, year.to_last);
        month = (month.from_one, month.to_last);
        day = (omega arith, day_in_month day y m month);
        hour = omega arith;
        minute = omega arith;
        second = omega arith;
        millisecond = omega arith;
      },
      rw (day_found day y m month, clock) refl,
    )

-- `civil_at` gives a date and time of the moment
pub civil_at_is : (m : ℤ) → IsMoment m → IsCivil (civil_at m) × (moment_of (civil_at m) ≡ m)
unfolding civil_at
civil_at_is m h =
    let day = int_div_euclid m (pos 86400000) in
    let time = unsigned_abs (int_rem_euclid m (pos 86400000)) in
    let found = civil_found day time (day_range m day time h (time_bound m) (parts_of m)) (time_bound m) in
    (found.0, found.1 ∙ parts_of m)
