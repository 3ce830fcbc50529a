use Rattle.error_page.proofs.PageLemmas.{page_is}
use Rattle.error_page.proofs.page.page_text.Goals as goal

pub returns : goal.returns
returns c =
    page_is c.args.status c.args.out.now _ _ _ _ _ (rw c.reserve.ensures at c.in_ok-extend.ensures.ok) c.in_ok-put_title.ensures
    c.in_ok-extend-2.ensures.ok c.in_ok-put_title-2.ensures c.in_ok-extend-3.ensures.ok
