use Rattle.resp_head.specs.Head.{length_fields, modified_fields, location_fields, transfer_fields}
use Rattle.resp_head.specs.Lent.{of_kind}
use Rattle.resp_head.proofs.LineLemmas.{rest_is}
use Rattle.resp_head.proofs.head.put_rest.Goals as goal

pub returns : goal.returns
unfolding length_fields modified_fields location_fields transfer_fields
returns c =
    rest_is (of_kind c.args.head.now c.args.kind) c.args.out.now _ _ _ _ _ _
    c.in_ok-put_type_of.ensures c.in_ok-put_length_of.ensures c.in_ok-put_modified_of.ensures c.in_ok-put_location_of.ensures c.in_ok-put_transfer_of.ensures c.in_ok-put_end.ensures
