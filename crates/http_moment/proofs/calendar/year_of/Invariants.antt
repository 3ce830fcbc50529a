use Rattle.std.proofs.Common.{◌≡◌, ◌+◌, ◌-◌, ◌≤◌}
use Rattle.httpdate.specs.Calendar as Calendar
use Rattle.http_moment.proofs.calendar.year_of.Given as goal

abbrev pub invariant-loop-left : goal.invariant-loop-left
invariant-loop-left l = (Calendar.days_of_years (l.year - 1970) + l.left ≡ l.days) × (1970 ≤ l.year) × (l.year ≤ 9999)

abbrev pub decreases-loop-left : goal.decreases-loop-left
decreases-loop-left l = l.left
