use Rattle.std.proofs.Common.{◌≡◌, ◌+◌, ◌-◌, ◌/◌, ◌<◌, arith}
use Rattle.httpdate.specs.Calendar.{days_of_years, days_in_year}
use Rattle.http_moment.proofs.YearLemmas.{years_at_most, years_below, next_year}
use Rattle.http_moment.proofs.calendar.year_of.Goals as goal

pub overflow_sub-left : goal.overflow_sub-left
overflow_sub-left c =
    let back : 1970 + c.args.days / 366 - 1970 ≡ c.args.days / 366 = omega arith in
    omega (arith, rw back at c.days_before_year.ensures, years_at_most (c.args.days / 366))

pub loop-left-init : goal.loop-left-init
loop-left-init c =
    let back : 1970 + c.args.days / 366 - 1970 ≡ c.args.days / 366 = omega arith in
    let started = rw back at c.days_before_year.ensures in
    let most = years_at_most (c.args.days / 366) in
    (rw back (omega (arith, started, most)), omega arith, omega arith)

pub loop-left-preserved : goal.loop-left-preserved
loop-left-preserved c =
    let len = c.days_in_year-len.ensures in
    let past : ¬ (c.loop-left.left < days_in_year c.loop-left.year) = omega arith in
    let next = next_year c.loop-left.year c.loop-left.left c.args.days c.loop-left.invariant.1 c.loop-left.invariant.0 past in
    let more : days_of_years (c.loop-left.year + 1 - 1970) < 2932897 = omega (arith, next) in
    (rw len next, omega arith, omega (arith, years_below (c.loop-left.year + 1 - 1970) more))
