use Rattle.http_moment.proofs.CalendarLemmas.{calendar_right}
use Rattle.http_moment.proofs.laws.calendar_is_right.Goals as goal

pub returns : goal.returns
returns c = calendar_right
