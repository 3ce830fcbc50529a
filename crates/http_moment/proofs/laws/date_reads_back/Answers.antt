use Rattle.http_moment.proofs.CalendarLemmas.{date_reads_back}
use Rattle.http_moment.proofs.laws.date_reads_back.Goals as goal

pub returns : goal.returns
returns c = date_reads_back
