-- `calendar` is right.
use Rattle.std.proofs.Common.{◌≡◌, ℕ, zero, suc, ◌+◌, ◌-◌, ◌*◌, ◌/◌, ◌%◌, ◌<◌, ◌≤◌, min, Some, refl, sym, ap, ◌∙◌, arith, inl, cond, nat_lt, true, false}
use Rattle.std.proofs.lemmas.Bool.Decides.{nat_tests}
use Rattle.httpdate.specs.declared.parts.Parts.{Parts}
use Rattle.httpdate.specs.declared.date.HttpDate.{HttpDate}
use Rattle.httpdate.specs.Calendar.{days_in_year, days_in_month, days_of_years, days_of_months, days_from_civil, weekday, IsCivilDate}
use Rattle.httpdate.specs.Valid.{parts_secs}
use Rattle.httpdate.specs.Text.{imf_fixdate}
use Rattle.httpdate.specs.Date.{unix_secs, date_text}
use Rattle.httpdate.proofs.CalendarLemmas.{days_of_years_closed, days_of_months_all}
use Rattle.httpdate.proofs.Theorems.{unix_secs_injective}
use Rattle.httpdate.proofs.ValidLemmas.{is_valid_complete}
use Rattle.httpdate.proofs.FormatLemmas.{parse_complete}
use Rattle.http_moment.proofs.YearLemmas.{years_sum, years_none, months_sum, months_none}
use Rattle.http_moment.specs.Moment.{unit_of, year_of, month_of, calendar, shown_at, date_of, last_second, CalendarIsRight, DateReadsBack}

-- the unit is one of those that there are, and the days before it and those that have passed of it are all the days
record IsUnit (len sums : ℕ → ℕ) (base count days : ℕ) (r : ℕ × ℕ) : Type 0 where
  k : ℕ
  unit : r.0 ≡ base + k
  below : k < count
  all : sums k + r.1 ≡ days
  within : r.1 < len r.0

past_all : (sums : ℕ → ℕ) (n count left days : ℕ) → n ≡ count → sums n + left ≡ days → ¬ (days < sums count)
past_all sums n count left days same so_far inside = omega (arith, rw (← same) at inside)

next_sum : (len sums : ℕ → ℕ) (base n unit left days : ℕ) → sums (suc n) ≡ sums n + len (base + n) → unit ≡ base + n → sums n + left ≡ days → ¬ (left < len unit) → sums (suc n) + (left - len unit) ≡ days
next_sum len sums base n unit left days step at so_far past = rw step (rw (← at) (omega (arith, past)))

is_below : (a b : ℕ) → nat_lt a b ≡ true → a < b
is_below a b e = grind (arith, nat_tests)

not_below : (a b : ℕ) → nat_lt a b ≡ false → ¬ (a < b)
not_below a b e = grind (arith, nat_tests)

unit_of_right : (len sums : ℕ → ℕ) (base count days : ℕ) → ((n : ℕ) → sums (suc n) ≡ sums n + len (base + n)) → days < sums count → (more n unit left : ℕ) → unit ≡ base + n → n + more ≡ count → sums n + left ≡ days → IsUnit len sums base count days (unit_of len more unit left)
unfolding unit_of
unit_of_right len sums base count days step inside zero n unit left at end so_far =
    absurd (past_all sums n count left days (omega arith) so_far inside)
unit_of_right len sums base count days step inside (suc more) n unit left at end so_far =
    elim (nat_lt left (len unit)) as (λ b. nat_lt left (len unit) ≡ b → IsUnit len sums base count days (cond b (unit, left) (unit_of len more (suc unit) (left - len unit)))) [
      | true ↦ λ e. record { k = n; unit = at; below = omega arith; all = so_far; within = is_below left (len unit) e }
      | false ↦ λ e. unit_of_right len sums base count days step inside more (suc n) (suc unit) (left - len unit) (omega arith) (omega arith)
          (next_sum len sums base n unit left days (step n) at so_far (not_below left (len unit) e))
    ] refl

year_is : (days : ℕ) → days < 2932897 → IsUnit days_in_year days_of_years 1970 8030 days (year_of days)
unfolding year_of
year_is days h =
    unit_of_right days_in_year days_of_years 1970 8030 days years_sum (omega (arith, days_of_years_closed 8030)) 8030 0 1970 days
    (omega arith) (omega arith) (omega (arith, years_none))

month_is : (days : ℕ) → (year_of days).1 < days_in_year (year_of days).0 → IsUnit (days_in_month (year_of days).0) (days_of_months (year_of days).0) 1 12 (year_of days).1 (month_of days)
unfolding month_of
month_is days h =
    let y = (year_of days).0 in
    unit_of_right (days_in_month y) (days_of_months y) 1 12 (year_of days).1 (months_sum y)
    (rw (days_of_months_all y) h) 12 0 1 (year_of days).1
    (omega arith) (omega arith) (omega (arith, months_none y))

-- the year, the month and the day of the month are a date of the calendar, with this many days before it
date_is : (days : ℕ) → days < 2932897 → IsCivilDate (year_of days).0 (month_of days).0 ((month_of days).1 + 1) × (days_from_civil (year_of days).0 (month_of days).0 ((month_of days).1 + 1) ≡ days)
date_is days h =
    let y = year_is days h in
    let m = month_is days y.within in
    let year : (year_of days).0 - 1970 ≡ y.k = omega (arith, y.unit) in
    let month : (month_of days).0 - 1 ≡ m.k = omega (arith, m.unit) in
    let day : (month_of days).1 + 1 - 1 ≡ (month_of days).1 = omega arith in
    let range : IsCivilDate (year_of days).0 (month_of days).0 ((month_of days).1 + 1) =
    ((omega (arith, y.unit), omega (arith, y.unit, y.below)), (omega (arith, m.unit), omega (arith, m.unit, m.below)), (omega arith, omega (arith, m.within))) in
    (range, rw (year, month, day) (omega (arith, y.all, m.all)))

secs_is : (s : ℕ) → s / 86400 * 86400 + s % 86400 / 3600 * 3600 + s % 3600 / 60 * 60 + s % 60 ≡ s
secs_is s = omega arith

pub calendar_right : CalendarIsRight
unfolding calendar
calendar_right secs h =
    let days = secs / 86400 in
    let date = date_is days (omega arith) in
    let same : days_from_civil (year_of days).0 (month_of days).0 ((month_of days).1 + 1) ≡ days = date.1 in
    ((date.0, (omega arith, omega arith, omega arith), rw same refl), rw same (secs_is secs))

shown_at_small : (secs : ℕ) → secs ≤ last_second → shown_at secs ≡ calendar secs
unfolding shown_at
shown_at_small secs h = let same : min secs last_second ≡ secs = omega arith in rw same refl

-- a date of httpdate's that has the second has the numbers that `calendar` gives
pub date_parts_are : (d : HttpDate) (secs : ℕ) → secs ≤ last_second → unix_secs d ≡ secs → d.parts ≡ calendar secs
date_parts_are d secs h e =
    let right = calendar_right secs h in
    unix_secs_injective d (record { parts = calendar secs; civil = right.0.0; time = right.0.1; right_day = right.0.2 }) (e ∙ sym right.1)

-- and the text of that date is the second's
pub date_text_is_date_of : (d : HttpDate) (secs : ℕ) → unix_secs d ≡ min secs last_second → date_text d ≡ date_of secs
unfolding date_of shown_at
date_text_is_date_of d secs e = ap imf_fixdate (date_parts_are d (min secs last_second) (omega arith) e)

date_of_small : (secs : ℕ) → secs ≤ last_second → date_of secs ≡ imf_fixdate (calendar secs)
unfolding date_of
date_of_small secs h = ap imf_fixdate (shown_at_small secs h)

pub date_reads_back : DateReadsBack
date_reads_back secs h =
    let right = calendar_right secs h in
    let read = parse_complete (date_of secs) (calendar secs) right.0 (inl (date_of_small secs h)) in
    let valid = is_valid_complete (calendar secs) right.0 in
    rw read (rw valid (ap Some right.1))

-- numbers that count up to the second are those that `calendar` gives
pub counted_is_calendar : (secs y m d yd hour min sec wday : ℕ) → secs ≤ last_second → 1970 ≤ y → y ≤ 9999 → 1 ≤ m → m ≤ 12 → d < days_in_month y m → days_of_years (y - 1970) + yd ≡ secs / 86400 → days_of_months y (m - 1) + d ≡ yd → hour ≡ secs % 86400 / 3600 → min ≡ secs % 86400 % 3600 / 60 → sec ≡ secs % 86400 % 60 → wday ≡ (secs / 86400 + 3) % 7 + 1 → (let p : Parts = record { year = y; mon = m; day = d + 1; hour = hour; min = min; sec = sec; wday = wday } in p ≡ calendar secs)
counted_is_calendar secs y m d yd hour min sec wday h y_low y_high m_low m_high d_high year month e_hour e_min e_sec e_wday =
    let p : Parts = record { year = y; mon = m; day = d + 1; hour = hour; min = min; sec = sec; wday = wday } in
    let back : d + 1 - 1 ≡ d = omega arith in
    let days : days_from_civil y m (d + 1) ≡ secs / 86400 = rw back (omega arith) in
    let civil : IsCivilDate y m (d + 1) = ((y_low, y_high), (m_low, m_high), (omega arith, omega arith)) in
    let clock : (hour < 24) × (min < 60) × (sec < 60) = (omega arith, omega arith, omega arith) in
    let day : wday ≡ weekday (days_from_civil y m (d + 1)) = rw days e_wday in
    let same : parts_secs p ≡ secs = rw days (omega arith) in
    date_parts_are (record { parts = p; civil = civil; time = clock; right_day = day }) secs h same
