use Rattle.std.proofs.Common.{◌∙◌}
use Rattle.http_moment.proofs.CalendarLemmas.{date_text_is_date_of}
use Rattle.http_moment.proofs.date.date_text.Goals as goal

pub returns : goal.returns
returns c =
    c.to_bytes.ensures ∙ date_text_is_date_of c.unwrap.result c.args.secs (rw c.unwrap.ensures at c.from_unix_secs.ensures.value ∙ c.min.ensures)
