use Rattle.error_page.proofs.PageLemmas.{page_has_length}
use Rattle.error_page.proofs.laws.page_has_length.Goals as goal

pub returns : goal.returns
returns c = page_has_length
