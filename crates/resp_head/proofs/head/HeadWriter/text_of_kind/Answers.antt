use Rattle.std.proofs.Common.{refl, [], ◌∙◌}
use Rattle.resp_head.specs.Lent.{of_kind}
use Rattle.resp_head.proofs.LineLemmas.{whole_is}
use Rattle.resp_head.proofs.head.HeadWriter.text_of_kind.Goals as goal

pub returns : goal.returns
returns c = c.as_slice.ensures ∙ whole_is _ (of_kind c.args.head.now c.args.kind) [] _ _ refl c.in_ok-front.ensures.text (rw c.reserve.ensures at c.in_ok-put_rest.ensures)
