use Rattle.http_moment.proofs.YearLemmas.{days_before}
use Rattle.http_moment.proofs.calendar.days_before_year.Goals as goal

pub returns : goal.returns
returns c = days_before c.args.year c.requires
