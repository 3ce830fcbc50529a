use Rattle.std.proofs.Common.{sym}
use Rattle.http_moment.proofs.date.read_date.Goals as goal

pub returns-in-Ok-clause-shown : goal.returns-in-Ok-clause-shown
returns-in-Ok-clause-shown c = (c.in-Ok.date, c.in-Ok.ensures.shown, sym c.unix_secs.ensures.value)
