use Rattle.std.proofs.Common.{codes}
use Rattle.http_header.specs.HeaderMap.{get_all}
use Rattle.req_head.proofs.MadeLemmas.{fault-known}
use Rattle.req_head.proofs.rules.find_fault.Goals as goal

pub returns : goal.returns
returns c = λ fields known.
    fault-known c.args.minor c.args.target.now fields c.is_bad_host-host.result c.is_mixed-mixed.result c.is_other_coding-coding.result c.is_bad_length-length.result c.is_target.result c.first_fault.result
    (c.is_bad_host-host.ensures (get_all fields (codes "host")) known.host)
    (c.is_mixed-mixed.ensures (get_all fields (codes "transfer-encoding")) (get_all fields (codes "content-length")) known.coding known.length)
    (c.is_other_coding-coding.ensures (get_all fields (codes "transfer-encoding")) known.coding)
    (c.is_bad_length-length.ensures (get_all fields (codes "content-length")) known.length)
    c.is_target.ensures c.first_fault.ensures
