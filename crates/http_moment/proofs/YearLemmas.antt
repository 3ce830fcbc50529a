-- The days of whole years and months.
use Rattle.std.proofs.Common.{◌≡◌, ℕ, suc, ◌+◌, ◌-◌, ◌*◌, ◌/◌, ◌<◌, ◌≤◌, refl, arith}
use Rattle.httpdate.specs.Calendar.{days_in_year, days_in_month, days_of_years, days_of_months}
use Rattle.httpdate.proofs.CalendarLemmas.{days_of_years_closed, days_of_months_all, days_of_months_more}

pub years_sum : (n : ℕ) → days_of_years (suc n) ≡ days_of_years n + days_in_year (1970 + n)
unfolding days_of_years
years_sum n = refl

pub years_none : days_of_years 0 ≡ 0
unfolding days_of_years
years_none = refl

pub months_sum : (y n : ℕ) → days_of_months y (suc n) ≡ days_of_months y n + days_in_month y (1 + n)
unfolding days_of_months
months_sum y n = let same : 1 + n ≡ suc n = omega arith in rw same refl

pub months_none : (y : ℕ) → days_of_months y 0 ≡ 0
unfolding days_of_months
months_none y = refl

-- the days before a year from 1970 on, counted from 1601
pub days_before : (year : ℕ) → 1970 ≤ year → (year - 1601) * 365 + (year - 1601) / 4 - (year - 1601) / 100 + (year - 1601) / 400 - 134774 ≡ days_of_years (year - 1970)
days_before year h =
    let same : year - 1970 + 369 ≡ year - 1601 = omega arith in
    omega (arith, rw same at (days_of_years_closed (year - 1970)))

-- no year has more than 366 days
pub years_at_most : (n : ℕ) → days_of_years n ≤ 366 * n
years_at_most n = omega (arith, days_of_years_closed n)

-- the year 10000 begins after 2932897 days
pub years_below : (n : ℕ) → days_of_years n < 2932897 → n < 8030
years_below n h = omega (arith, days_of_years_closed n)

-- a year more
pub next_year : (year left days : ℕ) → 1970 ≤ year → days_of_years (year - 1970) + left ≡ days → ¬ (left < days_in_year year) → days_of_years (year + 1 - 1970) + (left - days_in_year year) ≡ days
next_year year left days h so_far past =
    let next : year + 1 - 1970 ≡ suc (year - 1970) = omega arith in
    let same : 1970 + (year - 1970) ≡ year = omega arith in
    rw next (rw (years_sum (year - 1970)) (rw same (omega (arith, past))))

-- a month more
pub next_month : (year month left days : ℕ) → 1 ≤ month → days_of_months year (month - 1) + left ≡ days → ¬ (left < days_in_month year month) → days_of_months year (month + 1 - 1) + (left - days_in_month year month) ≡ days
next_month year month left days h so_far past =
    let back : month + 1 - 1 ≡ month = omega arith in
    rw back (omega (arith, days_of_months_more year month h, past))

-- what eleven months leave of a year fits December
pub december : (year month left days : ℕ) → month - 1 ≡ 11 → days_of_months year (month - 1) + left ≡ days → days < days_in_year year → left < 31
december year month left days last so_far within =
    omega (arith, rw last at so_far, days_of_months_all year, days_of_months_more year 12 (omega arith))
