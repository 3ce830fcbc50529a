-- The text of a second is visible ASCII.
use Rattle.std.proofs.Common.{◌≡◌, ℕ, zero, suc, ◌+◌, ◌-◌, ◌/◌, ◌%◌, ◌<◌, ◌≤◌, true, List, [], ◌∷◌, ◌++◌, length, codes, get_or, refl, ◌∙◌, arith, min, length-append}
use Rattle.std.specs.List.{list_all}
use Rattle.std.proofs.lemmas.List.Folds.{list_all-append}
use Rattle.std.proofs.lemmas.Bool.Decides.{nat_tests}
use Rattle.httpdate.specs.declared.parts.Parts.{Parts}
use Rattle.httpdate.specs.Valid.{IsValid}
use Rattle.httpdate.specs.Text.{two_digits, four_digits, time_of_day, imf_fixdate}
use Rattle.http_moment.specs.Moment.{is_visible, last_second, calendar, shown_at, date_of, DateIsVisible}
use Rattle.http_moment.proofs.CalendarLemmas.{calendar_right}

-- this many bytes, all of them visible
record Shows (n : ℕ) (xs : List ℕ) : Type 0 where
  seen : list_all is_visible xs ≡ true
  size : length xs ≡ n

both : (m n : ℕ) (xs ys : List ℕ) → Shows m xs → Shows n ys → Shows (m + n) (xs ++ ys)
both m n xs ys a b = record {
  seen = list_all-append is_visible xs ys ∙ rw (a.seen, b.seen) refl;
  size = length-append xs ys ∙ rw (a.size, b.size) refl;
}

digits_shown : (n : ℕ) → n < 100 → Shows 2 (two_digits n)
digits_shown n h = record { seen = grind (arith, nat_tests); size = refl }

days_shown : (k : ℕ) → k < 7 → Shows 3 (get_or (codes "Mon" ∷ codes "Tue" ∷ codes "Wed" ∷ codes "Thu" ∷ codes "Fri" ∷ codes "Sat" ∷ codes "Sun" ∷ []) k [])
days_shown zero h = record { seen = refl; size = refl }
days_shown (suc zero) h = record { seen = refl; size = refl }
days_shown (suc (suc zero)) h = record { seen = refl; size = refl }
days_shown (suc (suc (suc zero))) h = record { seen = refl; size = refl }
days_shown (suc (suc (suc (suc zero)))) h = record { seen = refl; size = refl }
days_shown (suc (suc (suc (suc (suc zero))))) h = record { seen = refl; size = refl }
days_shown (suc (suc (suc (suc (suc (suc zero)))))) h = record { seen = refl; size = refl }
days_shown (suc (suc (suc (suc (suc (suc (suc n))))))) h = absurd (omega arith)

months_shown : (k : ℕ) → k < 12 → Shows 3 (get_or (codes "Jan" ∷ codes "Feb" ∷ codes "Mar" ∷ codes "Apr" ∷ codes "May" ∷ codes "Jun" ∷ codes "Jul" ∷ codes "Aug" ∷ codes "Sep" ∷ codes "Oct" ∷ codes "Nov" ∷ codes "Dec" ∷ []) k [])
months_shown zero h = record { seen = refl; size = refl }
months_shown (suc zero) h = record { seen = refl; size = refl }
months_shown (suc (suc zero)) h = record { seen = refl; size = refl }
months_shown (suc (suc (suc zero))) h = record { seen = refl; size = refl }
months_shown (suc (suc (suc (suc zero)))) h = record { seen = refl; size = refl }
months_shown (suc (suc (suc (suc (suc zero))))) h = record { seen = refl; size = refl }
months_shown (suc (suc (suc (suc (suc (suc zero)))))) h = record { seen = refl; size = refl }
months_shown (suc (suc (suc (suc (suc (suc (suc zero))))))) h = record { seen = refl; size = refl }
months_shown (suc (suc (suc (suc (suc (suc (suc (suc zero)))))))) h = record { seen = refl; size = refl }
months_shown (suc (suc (suc (suc (suc (suc (suc (suc (suc zero))))))))) h = record { seen = refl; size = refl }
months_shown (suc (suc (suc (suc (suc (suc (suc (suc (suc (suc zero)))))))))) h = record { seen = refl; size = refl }
months_shown (suc (suc (suc (suc (suc (suc (suc (suc (suc (suc (suc zero))))))))))) h = record { seen = refl; size = refl }
months_shown (suc (suc (suc (suc (suc (suc (suc (suc (suc (suc (suc (suc n)))))))))))) h = absurd (omega arith)

text_shown : (xs : List ℕ) → list_all is_visible xs ≡ true → Shows (length xs) xs
text_shown xs e = record { seen = e; size = refl }

clock_shown : (p : Parts) → p.hour < 24 → p.min < 60 → p.sec < 60 → Shows 8 (time_of_day p)
clock_shown p h m s =
    both 6 2 _ _ (both 5 1 _ _ (both 3 2 _ _ (both 2 1 _ _ (digits_shown p.hour (omega arith)) (text_shown (codes ":") refl)) (digits_shown p.min (omega arith))) (text_shown (codes ":") refl)) (digits_shown p.sec (omega arith))

year_shown : (y : ℕ) → y ≤ 9999 → Shows 4 (four_digits y)
year_shown y h = both 2 2 _ _ (digits_shown (y / 100) (omega arith)) (digits_shown (y % 100) (omega arith))

date_shown : (p : Parts) → p.year ≤ 9999 → p.mon - 1 < 12 → p.day < 100 → p.wday - 1 < 7 → p.hour < 24 → p.min < 60 → p.sec < 60 → Shows 29 (imf_fixdate p)
date_shown p year mon day wday hour min sec =
    both 25 4 _ _ (both 17 8 _ _ (both 16 1 _ _ (both 12 4 _ _ (both 11 1 _ _ (both 8 3 _ _ (both 7 1 _ _ (both 5 2 _ _ (both 3 2 _ _
    (days_shown (p.wday - 1) wday) (text_shown (codes ", ") refl)) (digits_shown p.day day)) (text_shown (codes " ") refl))
    (months_shown (p.mon - 1) mon)) (text_shown (codes " ") refl)) (year_shown p.year year)) (text_shown (codes " ") refl))
    (clock_shown p hour min sec)) (text_shown (codes " GMT") refl)

days_in_month_bound : (p : Parts) → IsValid p → p.day < 100
days_in_month_bound p h = grind (arith, nat_tests)

valid_shown : (p : Parts) → IsValid p → Shows 29 (imf_fixdate p)
valid_shown p h =
    date_shown p h.0.0.1 (omega (arith, h.0.1)) (days_in_month_bound p h) (omega (arith, h.2)) h.1.0 h.1.1 h.1.2

date_of_shown : (secs : ℕ) → Shows 29 (date_of secs)
unfolding date_of shown_at
date_of_shown secs = let h = (calendar_right (min secs last_second) (omega arith)).0 in valid_shown (calendar (min secs last_second)) h

pub date_is_visible : DateIsVisible
date_is_visible secs = let shown = date_of_shown secs in (shown.seen, shown.size)
