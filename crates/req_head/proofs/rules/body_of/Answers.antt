use Rattle.std.proofs.Common.{codes}
use Rattle.http_header.specs.HeaderMap.{get_all}
use Rattle.req_head.proofs.MadeLemmas.{chunked-known, sized-known}
use Rattle.req_head.proofs.rules.body_of.Goals as goal

pub returns-then-are_there : goal.returns-then-are_there
returns-then-are_there c = λ fields known.
    let codings = get_all fields (codes "transfer-encoding") in
    chunked-known codings (get_all fields (codes "content-length")) c.are_there.result (c.are_there.ensures codings known.coding) c.if-are_there.true

pub returns-else-are_there : goal.returns-else-are_there
returns-else-are_there c = λ fields known.
    let codings = get_all fields (codes "transfer-encoding") in
    let lengths = get_all fields (codes "content-length") in
    sized-known codings lengths c.are_there.result c.body_by_length-by_length.result (c.are_there.ensures codings known.coding) c.if-are_there.false
    (c.body_by_length-by_length.ensures lengths known.length)
