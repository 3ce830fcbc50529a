use Rattle.req_head.proofs.HostLemmas.{seen_more, seen_bad, seen_plain}
use Rattle.req_head.proofs.host_bytes.look_at.Goals as goal

pub loop-byte-preserved : goal.loop-byte-preserved
loop-byte-preserved c =
    seen_more c.args.host.now c.loop-byte.byte-index c.loop-byte.kinds c.kind_of-kinds.result c.loop-byte-test.true c.kind_of-kinds.ensures c.loop-byte.invariant

pub returns : goal.returns
returns c =
    let host = c.args.host.now in
    let seen = c.loop-byte.invariant in
    record {
      bad = seen_bad host c.loop-byte.byte-index c.loop-byte.kinds c.loop-byte-test.false seen;
      plain = seen_plain host c.loop-byte.byte-index c.loop-byte.kinds c.loop-byte-test.false seen;
    }
