-- The text of a moment is that of its date and time.
use Rattle.std.proofs.Common.{◌≡◌, inl, inr, ℕ, ◌<◌, ◌≤◌, List, ◌++◌, append_assoc, refl, sym, ap, ◌∙◌, subst, arith, ℤ, pos, ◌+ℤ◌, ◌*ℤ◌}
use Rattle.std.proofs.lemmas.Bool.{cases_order}
use Rattle.std.proofs.lemmas.Int.{by_lt_z}
use Rattle.jiff_core.specs.Calendar.{days_from_civil, IsCivilDate}
use Rattle.jiff_core.proofs.SignedLemmas.{signed_arith}
use Rattle.jiff_core.proofs.CalendarLemmas.{days_from_civil-day_count, day_count-lt_year, day_count-lt_month}
use Rattle.jiff_core.proofs.DateLemmas.{days_from_civil-day}
use Rattle.arti_time.specs.declared.civil.Civil.{Civil}
use Rattle.arti_rows.specs.Moments.{IsMoment}
use Rattle.arti_time.specs.Civil.{IsCivil, time_of_day, day_number, moment_of}
use Rattle.arti_time.specs.Printed.{civil_at, printed, written}
use Rattle.arti_time.proofs.CivilLemmas.{civil_at_is}

pub join_two : (out a b after_a after_b : List ℕ) → after_a ≡ out ++ a → after_b ≡ after_a ++ b → after_b ≡ out ++ (a ++ b)
join_two out a b after_a after_b ea eb = eb ∙ ap (λ (l : List ℕ). l ++ b) ea ∙ append_assoc out a b

pub join_four : (out a b c d after_a after_b after_c after_d : List ℕ) → after_a ≡ out ++ a → after_b ≡ after_a ++ b → after_c ≡ after_b ++ c → after_d ≡ after_c ++ d → after_d ≡ out ++ (a ++ b ++ c ++ d)
join_four out a b c d after_a after_b after_c after_d ea eb ec ed =
    join_two out (a ++ b ++ c) d after_c after_d (join_two out (a ++ b) c after_b after_c (join_two out a b after_a after_b ea eb) ec) ed

pub calendar : (c : Civil) → IsCivil c → IsCivilDate (pos c.year) c.month c.day
calendar c h = ((omega (arith, signed_arith, h.year), omega (arith, signed_arith, h.year)), h.month, h.day)

-- of two dates with one day number neither is later
year_le : (c d : Civil) → IsCivil c → IsCivil d → day_number c ≡ day_number d → c.year ≤ d.year
year_le c d hc hd e =
    by_lt_z (pos d.year) (pos c.year)
    (λ lt. absurd (omega (arith, signed_arith, e, days_from_civil-day_count (pos c.year) c.month c.day, days_from_civil-day_count (pos d.year) d.month d.day, day_count-lt_year (pos d.year) d.month d.day (pos c.year) c.month c.day (calendar d hd) hc.day.0 lt)))
    (λ ge. omega (arith, signed_arith))

month_le : (y : ℤ) (m n i j : ℕ) → IsCivilDate y n j → 1 ≤ i → days_from_civil y m i ≡ days_from_civil y n j → m ≤ n
month_le y m n i j h low e = elim (cases_order m n) [
  | inl same ↦ omega arith
  | inr (inl lt) ↦ omega arith
  | inr (inr gt) ↦ absurd (omega (arith, signed_arith, e, days_from_civil-day_count y m i, days_from_civil-day_count y n j, day_count-lt_month y n j m i h low gt))
]

time_bound : (c : Civil) → IsCivil c → time_of_day c < 86400000
time_bound c h = omega (arith, h.hour, h.minute, h.second, h.millisecond)

same_day : (a b : ℤ) (s t : ℕ) → s < 86400000 → t < 86400000 → a *ℤ pos 86400000 +ℤ pos s ≡ b *ℤ pos 86400000 +ℤ pos t → (a ≡ b) × (s ≡ t)
same_day a b s t hs ht e = (omega (arith, signed_arith), omega (arith, signed_arith))

abbrev made : (year month day hour minute second millisecond : ℕ) → Civil
made year month day hour minute second millisecond = record {
  year = year;
  month = month;
  day = day;
  hour = hour;
  minute = minute;
  second = second;
  millisecond = millisecond;
}

same_civil : (c d : Civil) → c.year ≡ d.year → c.month ≡ d.month → c.day ≡ d.day → c.hour ≡ d.hour → c.minute ≡ d.minute → c.second ≡ d.second → c.millisecond ≡ d.millisecond → c ≡ d
same_civil c d year month day hour minute second millisecond =
    let e : made c.year c.month c.day c.hour c.minute c.second c.millisecond ≡ made d.year d.month d.day d.hour d.minute d.second d.millisecond =
    rw (year, month, day, hour, minute, second, millisecond) refl in
    e

-- two dates and times of one moment are the same
pub moment_of_injective : (c d : Civil) → IsCivil c → IsCivil d → moment_of c ≡ moment_of d → c ≡ d
moment_of_injective c d hc hd e =
    let same = same_day (day_number c) (day_number d) (time_of_day c) (time_of_day d) (time_bound c hc) (time_bound d hd) e in
    let year : c.year ≡ d.year = omega (arith, year_le c d hc hd same.0, year_le d c hd hc (sym same.0)) in
    let days : days_from_civil (pos d.year) c.month c.day ≡ days_from_civil (pos d.year) d.month d.day = ap (λ (y : ℕ). days_from_civil (pos y) c.month c.day) (sym year) ∙ same.0 in
    let date : IsCivilDate (pos d.year) c.month c.day = subst (λ (y : ℕ). IsCivilDate (pos y) c.month c.day) year (calendar c hc) in
    let month : c.month ≡ d.month = omega (arith, month_le (pos d.year) c.month d.month c.day d.day (calendar d hd) hc.day.0 days, month_le (pos d.year) d.month c.month d.day c.day date hd.day.0 (sym days)) in
    let in_month : days_from_civil (pos d.year) d.month c.day ≡ days_from_civil (pos d.year) d.month d.day = ap (λ (m : ℕ). days_from_civil (pos d.year) m c.day) (sym month) ∙ days in
    let day : c.day ≡ d.day = omega (arith, signed_arith, in_month, days_from_civil-day (pos d.year) d.month c.day d.day hc.day.0 hd.day.0) in
    same_civil c d year month day
    (omega (arith, same.1, hc.minute, hc.second, hc.millisecond, hd.minute, hd.second, hd.millisecond))
    (omega (arith, same.1, hc.minute, hc.second, hc.millisecond, hd.minute, hd.second, hd.millisecond))
    (omega (arith, same.1, hc.minute, hc.second, hc.millisecond, hd.minute, hd.second, hd.millisecond))
    (omega (arith, same.1, hc.minute, hc.second, hc.millisecond, hd.minute, hd.second, hd.millisecond))

pub printed_civil : (c : Civil) (m : ℤ) → IsCivil c → IsMoment m → moment_of c ≡ m → written c ≡ printed m
unfolding printed
printed_civil c m h range e =
    let at = civil_at_is m range in
    ap written (moment_of_injective c (civil_at m) h at.0 (e ∙ sym at.1))
