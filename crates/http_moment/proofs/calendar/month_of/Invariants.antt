use Rattle.std.proofs.Common.{◌≡◌, ◌+◌, ◌-◌}
use Rattle.httpdate.specs.Calendar as Calendar
use Rattle.http_moment.proofs.calendar.month_of.Given as goal

abbrev pub invariant-loop-month : goal.invariant-loop-month
invariant-loop-month l = Calendar.days_of_months l.year (l.month - 1) + l.left ≡ l.days
