use Rattle.std.proofs.Common.{◌++◌, ◌∙◌, ap}
use Rattle.resp_head.specs.Head.{head_of}
use Rattle.resp_head.specs.Lent.{of_kind}
use Rattle.resp_head.proofs.LineLemmas.{whole_is}
use Rattle.resp_head.proofs.head.head_text.Goals as goal

pub returns : goal.returns
returns c =
    whole_is c.date_text.result (of_kind c.args.head.now c.kind_of-kind.result) c.args.out.now _ _ c.date_text.ensures (rw c.reserve.ensures at c.in_ok-put_front.ensures) c.in_ok-put_rest.ensures
    ∙ ap (λ h. c.args.out.now ++ head_of h) c.kind_of-kind.ensures
