use Rattle.std.proofs.Common.{sym, arith}
use Rattle.error_page.proofs.PageLemmas.{title_length, page_phrase_short}
use Rattle.error_page.proofs.page.title_len.Goals as goal

pub returns-clause-exact : goal.returns-clause-exact
returns-clause-exact c = rw (c.format.ensures.text, c.page_phrase.ensures) (sym (title_length c.args.status))

pub returns-clause-short : goal.returns-clause-short
returns-clause-short c = rw c.page_phrase.ensures (omega (arith, c.format.ensures.short, page_phrase_short c.args.status))
