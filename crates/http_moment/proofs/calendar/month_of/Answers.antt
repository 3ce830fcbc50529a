use Rattle.std.proofs.Common.{◌<◌, arith, rules}
use Rattle.httpdate.specs.Calendar.{days_in_month}
use Rattle.http_moment.proofs.YearLemmas.{months_none, next_month, december}
use Rattle.http_moment.proofs.calendar.month_of.Goals as goal

pub loop-month-init : goal.loop-month-init
loop-month-init c = omega (arith, months_none c.args.year)

pub loop-month-preserved : goal.loop-month-preserved
loop-month-preserved c =
    let len = c.days_in_month-len.ensures in
    let past : ¬ (c.loop-month.left < days_in_month c.args.year c.loop-month.month) = omega arith in
    rw len (next_month c.args.year c.loop-month.month c.loop-month.left c.args.days c.loop-month.auto.month c.loop-month.invariant past)

pub overflow_cast-result-2 : goal.overflow_cast-result-2
overflow_cast-result-2 c =
    let left = december c.args.year c.loop-month.month c.loop-month.left c.args.days (omega arith) c.loop-month.invariant c.requires in
    search rules

pub returns-clause-within : goal.returns-clause-within
returns-clause-within c =
    december c.args.year c.loop-month.month c.loop-month.left c.args.days (omega arith) c.loop-month.invariant c.requires
