-- The reader of dates reads exactly the texts of dates.
use Rattle.std.proofs.Common.{◌≡◌, ℕ, ◌+◌, ◌*◌, ◌/◌, ◌%◌, ◌<◌, ◌≤◌, Bool, true, false, cond, ◌&&◌, ◌||◌, List, [], ◌∷◌, ◌++◌, length, take, drop, Option, Some, None, Result, IfOk, OnErr, refl, sym, ap, ◌∙◌, subst, arith, ℤ, pos, neg_ℤ, ◌+ℤ◌, ◌-ℤ◌, ◌*ℤ◌}
use Rattle.std.specs.Prelude.{All, codes, option_and_then, nat_lt, ◌==◌, if◌then◌else◌}
use Rattle.std.specs.Option.{ok_or}
use Rattle.std.specs.List.{prefix_len}
use Rattle.std.specs.Char.{is_ascii_digit, IsAsciiDigit}
use Rattle.std.specs.Int.{IsInRange}
use Rattle.std.proofs.lemmas.Option.{cond_some, none-some, same_Some}
use Rattle.std.proofs.lemmas.Bool.{eqb-true, ltb-true, and_parts}
use Rattle.std.proofs.lemmas.Bool.Decides.{nat_tests}
use Rattle.std.proofs.lemmas.List.{take_at, drop_at, take-append-drop}
use Rattle.std.proofs.lemmas.List.Folds.{length-prefix_len}
use Rattle.std.proofs.lemmas.List.Elements.{All-nil, All-head, All-tail}
use Rattle.std.proofs.lemmas.Int.{ints}
use Rattle.jiff_core.proofs.CalendarLemmas.{days_in_month_bounds}
use Rattle.arti_time.specs.declared.civil.Civil.{Civil}
use Rattle.arti_time.specs.declared.dates.NotADate.{NotADate}
use Rattle.arti_rows.specs.Moments.{IsMoment, is_moment}
use Rattle.arti_time.specs.Civil.{IsCivil, is_date, time_of_day, day_number, moment_of}
use Rattle.arti_time.specs.Printed.{digits, written_date}
use Rattle.arti_time.specs.Front.{two_digits, four_digits, after}
use Rattle.arti_time.specs.Dates.{Zone, Unnamed, Zulu, East, West, Day, Time, offset_text, zone_text, fraction_text, clock_text, date_text, minutes_east, milliseconds_of, IsOffset, IsZone, IsDateText, meant, ReadsDate}
use Rattle.arti_time.specs.DateReader.{midnight, date_front, fraction_front, at_time, time_front, skip_colon, whole_offset, offset_minutes, only_zulu, zone_east, clock_and_zone, time_and_zone, moment_at, date_of}
use Rattle.arti_time.proofs.RangeLemmas.{HasDate, is_date_tells, in_moments}
use Rattle.arti_time.proofs.FrontLemmas.{by_bool, then_some, when_none, two_digits_sound, two_digits_complete, four_digits_sound, four_digits_complete, after_sound, after_complete, front_digits, BeginsPlain, prefix_len-digits}

-- a date

midnight_sound : (year month day : ℕ) (c : Civil) → midnight year month day ≡ Some c → HasDate year month day × (c ≡ record { year = year; month = month; day = day; hour = 0; minute = 0; second = 0; millisecond = 0 })
unfolding midnight
midnight_sound year month day c e =
    let found = cond_some (is_date year month day) _ c e in
    ((is_date_tells year month day).0 found.0, sym found.1)

midnight_complete : (year month day : ℕ) → HasDate year month day → midnight year month day ≡ Some (record { year = year; month = month; day = day; hour = 0; minute = 0; second = 0; millisecond = 0 })
unfolding midnight
midnight_complete year month day h = rw ((is_date_tells year month day).1 h) refl

at_midnight : (year month day : ℕ) (c : Civil) → HasDate year month day → c ≡ record { year = year; month = month; day = day; hour = 0; minute = 0; second = 0; millisecond = 0 } → IsCivil c × (time_of_day c ≡ 0)
at_midnight year month day c h e = rw e (
  record {
    year = h.0;
    month = h.1.0;
    day = h.1.1;
    hour = omega arith;
    minute = omega arith;
    second = omega arith;
    millisecond = omega arith;
  },
  refl,
)

join_date : (year month day : ℕ) (rest t1 t2 t3 t4 text : List ℕ) → digits 4 year ++ t1 ≡ text → 45 ∷ t2 ≡ t1 → digits 2 month ++ t3 ≡ t2 → 45 ∷ t4 ≡ t3 → digits 2 day ++ rest ≡ t4 → written_date year month day ++ rest ≡ text
join_date year month day rest t1 t2 t3 t4 text e1 e2 e3 e4 e5 =
    ap (λ (l : List ℕ). digits 4 year ++ l) (ap (λ (l : List ℕ). 45 ∷ l) (ap (λ (l : List ℕ). digits 2 month ++ l) (ap (λ (l : List ℕ). 45 ∷ l) e5 ∙ e4) ∙ e3) ∙ e2) ∙ e1

date_front_sound : (text rest : List ℕ) (c : Civil) → date_front text ≡ Some (c, rest) → IsCivil c × (time_of_day c ≡ 0) × (written_date c.year c.month c.day ++ rest ≡ text)
unfolding date_front
date_front_sound text rest c e =
    let year = then_some (four_digits text) _ (c, rest) e in
    let mark = then_some (after 45 year.0.1) _ (c, rest) year.2 in
    let month = then_some (two_digits mark.0) _ (c, rest) mark.2 in
    let mark2 = then_some (after 45 month.0.1) _ (c, rest) month.2 in
    let day = then_some (two_digits mark2.0) _ (c, rest) mark2.2 in
    let civil = then_some (midnight year.0.0 month.0.0 day.0.0) _ (c, rest) day.2 in
    let pair = same_Some _ _ civil.2 in
    let same : civil.0 ≡ c = ap (λ (p : Civil × List ℕ). p.0) pair in
    let end : day.0.1 ≡ rest = ap (λ (p : Civil × List ℕ). p.1) pair in
    let found = midnight_sound year.0.0 month.0.0 day.0.0 civil.0 civil.1 in
    let is = sym same ∙ found.1 in
    let at = at_midnight year.0.0 month.0.0 day.0.0 c found.0 is in
    let written : written_date year.0.0 month.0.0 day.0.0 ++ rest ≡ text = join_date year.0.0 month.0.0 day.0.0 rest year.0.1 mark.0 month.0.1 mark2.0 text
    (four_digits_sound text year.0.0 year.0.1 year.1).1 (after_sound 45 year.0.1 mark.0 mark.1)
    (two_digits_sound mark.0 month.0.0 month.0.1 month.1).1 (after_sound 45 month.0.1 mark2.0 mark2.1)
    (ap (λ (l : List ℕ). digits 2 day.0.0 ++ l) (sym end) ∙ (two_digits_sound mark2.0 day.0.0 day.0.1 day.1).1) in
    (at.0, at.1, ap (λ (d : Civil). written_date d.year d.month d.day ++ rest) is ∙ written)

date_front_complete : (year month day : ℕ) (rest : List ℕ) → HasDate year month day → date_front (written_date year month day ++ rest) ≡ Some (record { year = year; month = month; day = day; hour = 0; minute = 0; second = 0; millisecond = 0 }, rest)
unfolding date_front
date_front_complete year month day rest h =
    let e1 = four_digits_complete year (45 ∷ (digits 2 month ++ (45 ∷ (digits 2 day ++ rest)))) (omega (arith, h.0)) in
    let e2 = after_complete 45 (digits 2 month ++ (45 ∷ (digits 2 day ++ rest))) in
    let e3 = two_digits_complete month (45 ∷ (digits 2 day ++ rest)) (omega (arith, h.1.0)) in
    let e4 = after_complete 45 (digits 2 day ++ rest) in
    let e5 = two_digits_complete day rest (omega (arith, h.1.1, days_in_month_bounds (pos year) month)) in
    let e6 = midnight_complete year month day h in
    rw (e1, e2, e3, e4, e5, e6) refl

-- a fraction of a second

-- the fraction that was read
record HasFraction (ds rest text : List ℕ) (millisecond : ℕ) : Type 0 where
  short : length ds ≤ 9
  all : All IsAsciiDigit ds
  value : millisecond ≡ milliseconds_of ds
  text_is : fraction_text ds ++ rest ≡ text

no_fraction : (text rest : List ℕ) (n : ℕ) → (p : ℕ × List ℕ) → p ≡ (n, rest) → p.0 ≡ 0 → p.1 ≡ text → HasFraction [] rest text n
no_fraction text rest n p e value left = record {
  short = omega arith;
  all = All-nil IsAsciiDigit;
  value = sym (ap (λ (q : ℕ × List ℕ). q.0) e) ∙ value;
  text_is = sym (ap (λ (q : ℕ × List ℕ). q.1) e) ∙ left;
}

-- at least one digit
some_digits : (ds more : List ℕ) → 0 < length ds → fraction_text ds ++ more ≡ 46 ∷ (ds ++ more)
some_digits [] more h = absurd (omega arith)
some_digits (d ∷ ds) more h = refl

length-front : (text : List ℕ) → length (take (prefix_len is_ascii_digit text) text) ≡ prefix_len is_ascii_digit text
length-front text = length-prefix_len is_ascii_digit text

with_fraction : (more rest : List ℕ) (n len : ℕ) → len ≡ prefix_len is_ascii_digit more → ((len == 0) || nat_lt 9 len) ≡ false → milliseconds_of (take len more) ≡ n → drop len more ≡ rest → HasFraction (take len more) rest (46 ∷ more) n
with_fraction more rest n len is fits value left =
    let size : length (take len more) ≡ len = rw is (length-front more) in
    let some : (0 < len) × (len ≤ 9) = grind (arith, nat_tests) in
    let whole : take len more ++ rest ≡ more = ap (λ (l : List ℕ). take len more ++ l) (sym left) ∙ take-append-drop len more in
    record {
      short = omega (arith, size, some);
      all = rw is (front_digits more);
      value = sym value;
      text_is = some_digits (take len more) rest (omega (arith, size, some)) ∙ ap (λ (l : List ℕ). 46 ∷ l) whole;
    }

fraction_front_sound : (text rest : List ℕ) (n : ℕ) → fraction_front text ≡ Some (n, rest) → (ds : List ℕ) × HasFraction ds rest text n
unfolding fraction_front
fraction_front_sound [] rest n e = ([], no_fraction [] rest n (0, []) (same_Some {A = ℕ × List ℕ} _ _ e) refl refl)
fraction_front_sound (mark ∷ more) rest n e = by_bool (mark == 46)
    (λ dot. let len = prefix_len is_ascii_digit more in
    let at : cond ((len == 0) || nat_lt 9 len) None (Some (milliseconds_of (take len more), drop len more)) ≡ Some (n, rest) = rw dot at e in
    let found = when_none ((len == 0) || nat_lt 9 len) _ (n, rest) at in
    (take len more, subst (λ (m : ℕ). HasFraction (take len more) rest (m ∷ more) n) (sym (eqb-true mark 46 dot)) (with_fraction more rest n len refl found.0 (ap (λ (p : ℕ × List ℕ). p.0) found.1) (ap (λ (p : ℕ × List ℕ). p.1) found.1))))
    (λ other. ([], no_fraction (mark ∷ more) rest n (0, mark ∷ more) (same_Some {A = ℕ × List ℕ} _ _ (rw other at e)) refl refl))

-- what follows a fraction: no digit and no dot
abbrev Follows : List ℕ → Type 0
Follows [] = Unit {0}
Follows (c ∷ rest) = (is_ascii_digit c ≡ false) × ((c == 46) ≡ false)

plain_from : (rest : List ℕ) → Follows rest → BeginsPlain rest
plain_from [] h = tt
plain_from (c ∷ rest) h = h.0

fraction_front_complete : (ds rest : List ℕ) → length ds ≤ 9 → All IsAsciiDigit ds → Follows rest → fraction_front (fraction_text ds ++ rest) ≡ Some (milliseconds_of ds, rest)
unfolding fraction_front
fraction_front_complete [] [] short all follows = refl
fraction_front_complete [] (c ∷ rest) short all follows = rw follows.1 refl
fraction_front_complete (d ∷ ds) rest short all follows =
    let len = prefix_len is_ascii_digit ((d ∷ ds) ++ rest) in
    let is : len ≡ length (d ∷ ds) = prefix_len-digits (d ∷ ds) rest all (plain_from rest follows) in
    let test : ((len == 0) || nat_lt 9 len) ≡ false = grind (arith, nat_tests) in
    let front : take len ((d ∷ ds) ++ rest) ≡ d ∷ ds = take_at (d ∷ ds) rest len (sym is) in
    let back : drop len ((d ∷ ds) ++ rest) ≡ rest = drop_at (d ∷ ds) rest len (sym is) in
    rw (test, front, back) refl

-- a time of day

at_time_sound : (c d : Civil) (hour minute second millisecond : ℕ) → at_time c hour minute second millisecond ≡ Some d → (hour < 24) × (minute < 60) × (second < 60) × (d ≡ record c { hour = hour; minute = minute; second = second; millisecond = millisecond })
unfolding at_time
at_time_sound c d hour minute second millisecond e =
    let found = cond_some (nat_lt hour 24 && (nat_lt minute 60 && nat_lt second 60)) _ d e in
    let first = and_parts (nat_lt hour 24) _ found.0 in
    let second_test = and_parts (nat_lt minute 60) _ first.1 in
    (ltb-true hour 24 first.0, ltb-true minute 60 second_test.0, ltb-true second 60 second_test.1, sym found.1)

at_time_complete : (c : Civil) (hour minute second millisecond : ℕ) → hour < 24 → minute < 60 → second < 60 → at_time c hour minute second millisecond ≡ Some (record c { hour = hour; minute = minute; second = second; millisecond = millisecond })
unfolding at_time
at_time_complete c hour minute second millisecond h m s =
    let a : nat_lt hour 24 ≡ true = grind (arith, nat_tests) in
    let b : nat_lt minute 60 ≡ true = grind (arith, nat_tests) in
    let d : nat_lt second 60 ≡ true = grind (arith, nat_tests) in
    rw (a, b, d) refl

join_time : (hour minute second : ℕ) (after_fraction t1 t2 t3 t4 t5 text fraction : List ℕ) → digits 2 hour ++ t1 ≡ text → 58 ∷ t2 ≡ t1 → digits 2 minute ++ t3 ≡ t2 → 58 ∷ t4 ≡ t3 → digits 2 second ++ t5 ≡ t4 → fraction ++ after_fraction ≡ t5 → (digits 2 hour ++ codes ":" ++ digits 2 minute ++ codes ":" ++ digits 2 second) ++ (fraction ++ after_fraction) ≡ text
join_time hour minute second after_fraction t1 t2 t3 t4 t5 text fraction e1 e2 e3 e4 e5 e6 =
    ap (λ (l : List ℕ). digits 2 hour ++ l) (ap (λ (l : List ℕ). 58 ∷ l) (ap (λ (l : List ℕ). digits 2 minute ++ l) (ap (λ (l : List ℕ). 58 ∷ l) (ap (λ (l : List ℕ). digits 2 second ++ l) e6 ∙ e5) ∙ e4) ∙ e3) ∙ e2) ∙ e1

-- the time of day that was read, on the same date
record HasTime (c d : Civil) (ds rest text : List ℕ) : Type 0 where
  year : d.year ≡ c.year
  month : d.month ≡ c.month
  day : d.day ≡ c.day
  hour : d.hour < 24
  minute : d.minute < 60
  second : d.second < 60
  fraction : HasFraction ds rest (fraction_text ds ++ rest) d.millisecond
  text_is : clock_text d ++ (fraction_text ds ++ rest) ≡ text

timed : (c d : Civil) (hour minute second millisecond : ℕ) (ds rest text t1 t2 t3 t4 t5 : List ℕ) → d ≡ record c { hour = hour; minute = minute; second = second; millisecond = millisecond } → hour < 24 → minute < 60 → second < 60
    → digits 2 hour ++ t1 ≡ text → 58 ∷ t2 ≡ t1 → digits 2 minute ++ t3 ≡ t2 → 58 ∷ t4 ≡ t3 → digits 2 second ++ t5 ≡ t4 → HasFraction ds rest t5 millisecond → HasTime c d ds rest text
timed c d hour minute second millisecond ds rest text t1 t2 t3 t4 t5 is h m s e1 e2 e3 e4 e5 f = rw is (record {
  year = refl;
  month = refl;
  day = refl;
  hour = h;
  minute = m;
  second = s;
  fraction = record { short = f.short; all = f.all; value = f.value; text_is = refl };
  text_is = join_time hour minute second rest t1 t2 t3 t4 t5 text (fraction_text ds) e1 e2 e3 e4 e5 f.text_is;
})

time_front_sound : (c : Civil) (text rest : List ℕ) (d : Civil) → time_front c text ≡ Some (d, rest) → (ds : List ℕ) × HasTime c d ds rest text
unfolding time_front
time_front_sound c text rest d e =
    let hour = then_some (two_digits text) _ (d, rest) e in
    let mark = then_some (after 58 hour.0.1) _ (d, rest) hour.2 in
    let minute = then_some (two_digits mark.0) _ (d, rest) mark.2 in
    let mark2 = then_some (after 58 minute.0.1) _ (d, rest) minute.2 in
    let second = then_some (two_digits mark2.0) _ (d, rest) mark2.2 in
    let fraction = then_some (fraction_front second.0.1) _ (d, rest) second.2 in
    let civil = then_some (at_time c hour.0.0 minute.0.0 second.0.0 fraction.0.0) _ (d, rest) fraction.2 in
    let pair = same_Some _ _ civil.2 in
    let same : civil.0 ≡ d = ap (λ (p : Civil × List ℕ). p.0) pair in
    let end : fraction.0.1 ≡ rest = ap (λ (p : Civil × List ℕ). p.1) pair in
    let at = at_time_sound c civil.0 hour.0.0 minute.0.0 second.0.0 fraction.0.0 civil.1 in
    let is = sym same ∙ at.3 in
    let read = fraction_front_sound second.0.1 fraction.0.1 fraction.0.0 fraction.1 in (
      read.0,
      timed c d hour.0.0 minute.0.0 second.0.0 fraction.0.0 read.0 rest text hour.0.1 mark.0 minute.0.1 mark2.0 second.0.1 is at.0 at.1 at.2
          (two_digits_sound text hour.0.0 hour.0.1 hour.1).1 (after_sound 58 hour.0.1 mark.0 mark.1)
          (two_digits_sound mark.0 minute.0.0 minute.0.1 minute.1).1 (after_sound 58 minute.0.1 mark2.0 mark2.1)
          (two_digits_sound mark2.0 second.0.0 second.0.1 second.1).1
          (subst (λ (l : List ℕ). HasFraction read.0 l second.0.1 fraction.0.0) end read.1),
    )

time_front_complete : (base c : Civil) (ds rest : List ℕ) → IsCivil c → length ds ≤ 9 → All IsAsciiDigit ds → Follows rest → time_front base (clock_text c ++ (fraction_text ds ++ rest)) ≡ Some (record base { hour = c.hour; minute = c.minute; second = c.second; millisecond = milliseconds_of ds }, rest)
unfolding time_front
time_front_complete base c ds rest h short all follows =
    let end = fraction_text ds ++ rest in
    let e1 = two_digits_complete c.hour (58 ∷ (digits 2 c.minute ++ (58 ∷ (digits 2 c.second ++ end)))) (omega (arith, h.hour)) in
    let e2 = after_complete 58 (digits 2 c.minute ++ (58 ∷ (digits 2 c.second ++ end))) in
    let e3 = two_digits_complete c.minute (58 ∷ (digits 2 c.second ++ end)) (omega (arith, h.minute)) in
    let e4 = after_complete 58 (digits 2 c.second ++ end) in
    let e5 = two_digits_complete c.second end (omega (arith, h.second)) in
    let e6 = fraction_front_complete ds rest short all follows in
    let e7 = at_time_complete base c.hour c.minute c.second (milliseconds_of ds) h.hour h.minute h.second in
    rw (e1, e2, e3, e4, e5, e6, e7) refl

-- a zone

abbrev colon_text : Bool → List ℕ
colon_text colon = if colon then codes ":" else []

skip_colon_sound : (text : List ℕ) → (colon : Bool) × (colon_text colon ++ skip_colon text ≡ text)
unfolding skip_colon
skip_colon_sound [] = (false, refl)
skip_colon_sound (first ∷ rest) = by_bool (first == 58)
    (λ e. (true, rw e (ap (λ (c : ℕ). c ∷ rest) (sym (eqb-true first 58 e)))))
    (λ e. (false, rw e refl))

skip_colon_complete : (colon : Bool) (minutes : ℕ) (rest : List ℕ) → skip_colon (colon_text colon ++ (digits 2 minutes ++ rest)) ≡ digits 2 minutes ++ rest
unfolding skip_colon
skip_colon_complete true minutes rest = refl
skip_colon_complete false minutes rest =
    let e : (48 + minutes / 10 % 10 == 58) ≡ false = grind (arith, nat_tests) in
    rw e refl

whole_offset_sound : (hours minutes n : ℕ) (rest : List ℕ) → whole_offset hours minutes rest ≡ Some n → IsOffset hours minutes × (hours * 60 + minutes ≡ n) × (rest ≡ [])
unfolding whole_offset
whole_offset_sound hours minutes n [] e =
    let found = cond_some (nat_lt hours 24 && nat_lt minutes 60) _ n e in
    let both = and_parts (nat_lt hours 24) _ found.0 in
    ((ltb-true hours 24 both.0, ltb-true minutes 60 both.1), found.1, refl)
whole_offset_sound hours minutes n (next ∷ rest) e = absurd (none-some n e)

whole_offset_complete : (hours minutes : ℕ) → IsOffset hours minutes → whole_offset hours minutes [] ≡ Some (hours * 60 + minutes)
unfolding whole_offset
whole_offset_complete hours minutes h =
    let a : nat_lt hours 24 ≡ true = grind (arith, nat_tests) in
    let b : nat_lt minutes 60 ≡ true = grind (arith, nat_tests) in
    rw (a, b) refl

-- the offset that was read
record HasOffset (colon : Bool) (hours minutes n : ℕ) (text : List ℕ) : Type 0 where
  in_range : IsOffset hours minutes
  value : hours * 60 + minutes ≡ n
  text_is : offset_text colon hours minutes ≡ text

join_offset : (colon : Bool) (hours minutes n : ℕ) (text t1 t2 rest : List ℕ) → IsOffset hours minutes × (hours * 60 + minutes ≡ n) × (rest ≡ []) → digits 2 hours ++ t1 ≡ text → colon_text colon ++ t2 ≡ t1 → digits 2 minutes ++ rest ≡ t2 → HasOffset colon hours minutes n text
join_offset colon hours minutes n text t1 t2 rest whole e1 e2 e3 = record {
  in_range = whole.0;
  value = whole.1;
  text_is =
      let e4 : digits 2 minutes ≡ t2 = ap (λ (l : List ℕ). digits 2 minutes ++ l) (sym whole.2) ∙ e3 in
      ap (λ (l : List ℕ). digits 2 hours ++ l) (ap (λ (l : List ℕ). colon_text colon ++ l) e4 ∙ e2) ∙ e1;
}

offset_sound : (text : List ℕ) (n : ℕ) → offset_minutes text ≡ Some n → (colon : Bool) × (hours : ℕ) × (minutes : ℕ) × HasOffset colon hours minutes n text
unfolding offset_minutes
offset_sound text n e =
    let hours = then_some (two_digits text) _ n e in
    let minutes = then_some (two_digits (skip_colon hours.0.1)) _ n hours.2 in
    let whole = whole_offset_sound hours.0.0 minutes.0.0 n minutes.0.1 minutes.2 in
    let skipped = skip_colon_sound hours.0.1 in (
      skipped.0,
      hours.0.0,
      minutes.0.0,
      join_offset skipped.0 hours.0.0 minutes.0.0 n text hours.0.1 (skip_colon hours.0.1) minutes.0.1 whole
          (two_digits_sound text hours.0.0 hours.0.1 hours.1).1 skipped.1 (two_digits_sound (skip_colon hours.0.1) minutes.0.0 minutes.0.1 minutes.1).1,
    )

offset_complete : (colon : Bool) (hours minutes : ℕ) → IsOffset hours minutes → offset_minutes (offset_text colon hours minutes) ≡ Some (hours * 60 + minutes)
unfolding offset_minutes
offset_complete colon hours minutes h =
    let e1 = two_digits_complete hours (colon_text colon ++ digits 2 minutes) (omega (arith, h.0)) in
    let e2 = skip_colon_complete colon minutes [] in
    let e3 = two_digits_complete minutes [] (omega (arith, h.1)) in
    let e4 = whole_offset_complete hours minutes h in
    rw (e1, e2, e3, e4) refl

-- the zone that was read
record HasZone (zone : Zone) (east : ℤ) (text : List ℕ) : Type 0 where
  in_range : IsZone zone
  value : minutes_east zone ≡ east
  text_is : zone_text zone ≡ text

only_zulu_sound : (sign : ℕ) (rest : List ℕ) (east : ℤ) → only_zulu sign rest ≡ Some east → HasZone Zulu east (sign ∷ rest)
unfolding only_zulu
only_zulu_sound sign [] east e =
    let found = cond_some (sign == 90) (pos 0) east e in
    record { in_range = tt; value = found.1; text_is = ap (λ (c : ℕ). c ∷ []) (sym (eqb-true sign 90 found.0)) }
only_zulu_sound sign (next ∷ rest) east e = absurd (none-some east e)

east_sound : (rest : List ℕ) (east : ℤ) → option_and_then (λ (n : ℕ). Some (pos n)) (offset_minutes rest) ≡ Some east → (z : Zone) × HasZone z east (43 ∷ rest)
east_sound rest east e =
    let read = then_some (offset_minutes rest) (λ (n : ℕ). Some (pos n)) east e in
    let found = offset_sound rest read.0 read.1 in
    let offset = found.3 in (
      East found.0 found.1 found.2,
      record {
        in_range = offset.in_range;
        value = ap (λ (n : ℕ). pos n) offset.value ∙ same_Some _ _ read.2;
        text_is = ap (λ (l : List ℕ). 43 ∷ l) offset.text_is;
      },
    )

west_sound : (rest : List ℕ) (east : ℤ) → option_and_then (λ (n : ℕ). Some (neg_ℤ (pos n))) (offset_minutes rest) ≡ Some east → (z : Zone) × HasZone z east (45 ∷ rest)
west_sound rest east e =
    let read = then_some (offset_minutes rest) (λ (n : ℕ). Some (neg_ℤ (pos n))) east e in
    let found = offset_sound rest read.0 read.1 in
    let offset = found.3 in (
      West found.0 found.1 found.2,
      record {
        in_range = offset.in_range;
        value = ap (λ (n : ℕ). neg_ℤ (pos n)) offset.value ∙ same_Some _ _ read.2;
        text_is = ap (λ (l : List ℕ). 45 ∷ l) offset.text_is;
      },
    )

zone_sound : (text : List ℕ) (east : ℤ) → zone_east text ≡ Some east → (z : Zone) × HasZone z east text
unfolding zone_east
zone_sound [] east e = (Unnamed, record { in_range = tt; value = same_Some _ _ e; text_is = refl })
zone_sound (sign ∷ rest) east e = by_bool (sign == 43)
    (λ plus. subst (λ (c : ℕ). (z : Zone) × HasZone z east (c ∷ rest)) (sym (eqb-true sign 43 plus)) (east_sound rest east (rw plus at e)))
    (λ no. by_bool (sign == 45)
    (λ minus. subst (λ (c : ℕ). (z : Zone) × HasZone z east (c ∷ rest)) (sym (eqb-true sign 45 minus)) (west_sound rest east (rw (no, minus) at e)))
    (λ other. (Zulu, only_zulu_sound sign rest east (rw (no, other) at e))))

zone_complete : (z : Zone) → IsZone z → zone_east (zone_text z) ≡ Some (minutes_east z)
unfolding zone_east only_zulu
zone_complete Unnamed h = refl
zone_complete Zulu h = refl
zone_complete (East colon hours minutes) h = rw (offset_complete colon hours minutes h) refl
zone_complete (West colon hours minutes) h = rw (offset_complete colon hours minutes h) refl

zone_follows : (z : Zone) → Follows (zone_text z)
zone_follows Unnamed = tt
zone_follows Zulu = (refl, refl)
zone_follows (East colon hours minutes) = (refl, refl)
zone_follows (West colon hours minutes) = (refl, refl)

-- a whole date

moment_at_sound : (m n : ℤ) → moment_at m ≡ Some n → (m ≡ n) × IsMoment n
moment_at_sound m n e =
    let found = cond_some (is_moment m) m n e in
    (found.1, subst IsMoment found.1 ((in_moments m).0 found.0))

moment_at_complete : (m n : ℤ) → m ≡ n → IsMoment n → moment_at m ≡ Some n
moment_at_complete m n e h = rw (e, (in_moments n).1 h) refl

milliseconds_of-lt : (ds : List ℕ) → All IsAsciiDigit ds → milliseconds_of ds < 1000
milliseconds_of-lt [] all = omega arith
milliseconds_of-lt (a ∷ []) all = let ha = All-head IsAsciiDigit a [] all in omega (arith, ha)
milliseconds_of-lt (a ∷ b ∷ []) all =
    let ha = All-head IsAsciiDigit a (b ∷ []) all in
    let hb = All-head IsAsciiDigit b [] (All-tail IsAsciiDigit a (b ∷ []) all) in
    omega (arith, ha, hb)
milliseconds_of-lt (a ∷ b ∷ c ∷ ds) all =
    let ha = All-head IsAsciiDigit a (b ∷ c ∷ ds) all in
    let more = All-tail IsAsciiDigit a (b ∷ c ∷ ds) all in
    let hb = All-head IsAsciiDigit b (c ∷ ds) more in
    let hc = All-head IsAsciiDigit c ds (All-tail IsAsciiDigit b (c ∷ ds) more) in
    omega (arith, ha, hb, hc)

timed_civil : (c d : Civil) (ds rest text : List ℕ) → IsCivil c → HasTime c d ds rest text → IsCivil d
timed_civil c d ds rest text h t = record {
  year = subst (λ (n : ℕ). IsInRange 1 9999 n) (sym t.year) h.year;
  month = subst (λ (n : ℕ). IsInRange 1 12 n) (sym t.month) h.month;
  day = rw (t.year, t.month, t.day) h.day;
  hour = t.hour;
  minute = t.minute;
  second = t.second;
  millisecond = subst (λ (n : ℕ). n < 1000) (sym t.fraction.value) (milliseconds_of-lt ds t.fraction.all);
}

alone : (c : Civil) (text : List ℕ) (m : ℤ) → IsCivil c → time_of_day c ≡ 0 → written_date c.year c.month c.day ++ [] ≡ text → moment_at (moment_of c -ℤ (pos 0 *ℤ pos 60000)) ≡ Some m → ReadsDate text m
alone c text m h midnight written e =
    let found = moment_at_sound _ m e in
    let same : moment_of c -ℤ (pos 0 *ℤ pos 60000) ≡ moment_of c = omega (arith, ints) in
    (Day c, (h, midnight), written, sym same ∙ found.0, found.1)

with_time : (c d : Civil) (ds zone_part more text : List ℕ) (z : Zone) (east m : ℤ) → IsCivil c → written_date c.year c.month c.day ++ (84 ∷ more) ≡ text → HasTime c d ds zone_part more → HasZone z east zone_part → moment_at (moment_of d -ℤ (east *ℤ pos 60000)) ≡ Some m → ReadsDate text m
with_time c d ds zone_part more text z east m h written t zone e =
    let found = moment_at_sound _ m e in
    let clock : clock_text d ++ (fraction_text ds ++ zone_text z) ≡ more = ap (λ (l : List ℕ). clock_text d ++ (fraction_text ds ++ l)) zone.text_is ∙ t.text_is in
    let date : written_date d.year d.month d.day ++ (84 ∷ more) ≡ text = rw (t.year, t.month, t.day) written in (
      Time d ds z,
      (timed_civil c d ds zone_part more h t, t.fraction.short, t.fraction.all, t.fraction.value, zone.in_range),
      ap (λ (l : List ℕ). written_date d.year d.month d.day ++ (84 ∷ l)) clock ∙ date,
      ap (λ (n : ℤ). moment_of d -ℤ (n *ℤ pos 60000)) zone.value ∙ found.0,
      found.1,
    )

rest_sound : (c : Civil) (rest text : List ℕ) (p : Civil × ℤ) (m : ℤ) → IsCivil c → time_of_day c ≡ 0 → written_date c.year c.month c.day ++ rest ≡ text → time_and_zone c rest ≡ Some p → moment_at (moment_of p.0 -ℤ (p.1 *ℤ pos 60000)) ≡ Some m → ReadsDate text m
unfolding time_and_zone clock_and_zone
rest_sound c [] text p m h midnight written e at =
    alone c text m h midnight written (subst (λ (q : Civil × ℤ). moment_at (moment_of q.0 -ℤ (q.1 *ℤ pos 60000)) ≡ Some m) (sym (same_Some {A = Civil × ℤ} _ _ e)) at)
rest_sound c (mark ∷ more) text p m h midnight written e at = by_bool (mark == 84)
    (λ yes.
    let time = then_some (time_front c more) _ p (rw yes at e) in
    let zone = then_some (zone_east time.0.1) _ p time.2 in
    let read = time_front_sound c more time.0.1 time.0.0 time.1 in
    let found = zone_sound time.0.1 zone.0 zone.1 in
    let same = same_Some {A = Civil × ℤ} _ _ zone.2 in
    with_time c time.0.0 read.0 time.0.1 more text found.0 zone.0 m h
    (ap (λ (b : ℕ). written_date c.year c.month c.day ++ (b ∷ more)) (sym (eqb-true mark 84 yes)) ∙ written) read.1 found.1
    (subst (λ (q : Civil × ℤ). moment_at (moment_of q.0 -ℤ (q.1 *ℤ pos 60000)) ≡ Some m) (sym same) at))
    (λ no. absurd (none-some p (rw no at e)))

-- what is read is meant by the text
pub date_of_sound : (text : List ℕ) (m : ℤ) → date_of text ≡ Some m → ReadsDate text m
unfolding date_of
date_of_sound text m e =
    let date = then_some (date_front text) _ m e in
    let time = then_some (time_and_zone date.0.0 date.0.1) _ m date.2 in
    let front = date_front_sound text date.0.1 date.0.0 date.1 in
    rest_sound date.0.0 date.0.1 text time.0 m front.0 front.1 front.2 time.1 time.2

date_alone : (c : Civil) (m : ℤ) → IsCivil c → time_of_day c ≡ 0 → moment_of c ≡ m → IsMoment m → date_of (written_date c.year c.month c.day) ≡ Some m
unfolding date_of time_and_zone clock_and_zone
date_alone c m h midnight means range =
    let front = date_front_complete c.year c.month c.day [] (h.year, (h.month, h.day)) in
    let day = day_number c *ℤ pos 86400000 in
    let same : (day +ℤ pos 0) -ℤ (pos 0 *ℤ pos 60000) ≡ m = omega (arith, ints) in
    rw front (moment_at_complete _ m same range)

date_timed : (c : Civil) (ds : List ℕ) (z : Zone) (m : ℤ) → IsDateText (Time c ds z) → meant (Time c ds z) ≡ m → IsMoment m → date_of (date_text (Time c ds z)) ≡ Some m
unfolding date_of time_and_zone clock_and_zone
date_timed c ds z m h means range =
    let base : Civil = record { year = c.year; month = c.month; day = c.day; hour = 0; minute = 0; second = 0; millisecond = 0 } in
    let front = date_front_complete c.year c.month c.day (84 ∷ (clock_text c ++ (fraction_text ds ++ zone_text z))) (h.0.year, (h.0.month, h.0.day)) in
    let time = time_front_complete base c ds (zone_text z) h.0 h.1 h.2 (zone_follows z) in
    let zone = zone_complete z h.4 in
    let clock : ((c.hour * 60 + c.minute) * 60 + c.second) * 1000 + milliseconds_of ds ≡ time_of_day c = ap (λ (n : ℕ). ((c.hour * 60 + c.minute) * 60 + c.second) * 1000 + n) (sym h.3) in
    let same : (day_number c *ℤ pos 86400000 +ℤ pos (((c.hour * 60 + c.minute) * 60 + c.second) * 1000 + milliseconds_of ds)) -ℤ (minutes_east z *ℤ pos 60000) ≡ m =
    ap (λ (n : ℕ). (day_number c *ℤ pos 86400000 +ℤ pos n) -ℤ (minutes_east z *ℤ pos 60000)) clock ∙ means in
    rw (front, time, zone) (moment_at_complete _ m same range)

-- and what is meant is read
pub date_of_complete : (text : List ℕ) (m : ℤ) → ReadsDate text m → date_of text ≡ Some m
date_of_complete text m (Day c, is, written, means, range) = ap date_of (sym written) ∙ date_alone c m is.0 is.1 means range
date_of_complete text m (Time c ds z, is, written, means, range) = ap date_of (sym written) ∙ date_timed c ds z m is means range

-- what these say of the answer to a caller

pub answer_reads : (text : List ℕ) (r : Result ℤ NotADate) (o : Option ℤ) (e : NotADate) → r ≡ ok_or o e → o ≡ date_of text → IfOk r (ReadsDate text)
answer_reads text r None e er eo = rw er tt
answer_reads text r (Some m) e er eo = rw er (date_of_sound text m (sym eo))

pub answer_refuses : (text : List ℕ) (r : Result ℤ NotADate) (o : Option ℤ) (e : NotADate) → r ≡ ok_or o e → o ≡ date_of text → OnErr r ((m : ℤ) → ReadsDate text m → ⊥)
answer_refuses text r None e er eo = rw er (λ m reads. none-some m (eo ∙ date_of_complete text m reads))
answer_refuses text r (Some m) e er eo = rw er tt
