use Rattle.std.proofs.Common.{ℕ, List, ap, false}
use Rattle.ngx_outside.specs.Linked.{LinkView}
use Rattle.memory_links.proofs.Ids.{taken_more}
use Rattle.memory_links.proofs.peer.Peer.read.Goals as goal

pub returns-clause-told : goal.returns-clause-told
returns-clause-told c =
    let s = c.args.self.now in
    ap (λ (t : List ℕ). let v : LinkView = record { local = s.local; peer = s.peer; among = s.among; taken = t; sent = s.sent; due = false; full = s.full; ended = s.ended } in v)
    (taken_more s.input c.as_slice.result.now c.rest_of-rest.result.now s.start c.copy_front-count.result c.copy_front-count.new.buf
    c.as_slice.ensures c.rest_of-rest.ensures c.copy_front-count.ensures.bytes)
