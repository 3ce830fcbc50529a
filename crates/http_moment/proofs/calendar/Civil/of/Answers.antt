use Rattle.std.proofs.Common.{refl}
use Rattle.http_moment.proofs.CalendarLemmas.{counted_is_calendar}
use Rattle.http_moment.proofs.calendar.Civil.of.Goals as goal

pub returns : goal.returns
returns c =
    let y = c.year_of-year in
    let m = c.month_of-month in
    counted_is_calendar c.args.secs y.result.0 m.result.0 m.result.1 y.result.1 _ _ _ _ c.requires
    y.ensures.low y.ensures.high m.ensures.low m.ensures.high m.ensures.within y.ensures.value m.ensures.value refl refl refl refl
