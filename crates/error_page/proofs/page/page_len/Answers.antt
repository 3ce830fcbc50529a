use Rattle.std.proofs.Common.{arith}
use Rattle.error_page.proofs.PageLemmas.{page_has_length}
use Rattle.error_page.proofs.page.page_len.Goals as goal

pub returns : goal.returns
returns c = omega (arith, page_has_length c.args.status, c.title_len.ensures.exact)
