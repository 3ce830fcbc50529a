use Rattle.req_head.proofs.HostLemmas.{IsSeen}
use Rattle.req_head.proofs.host_bytes.look_at.Given as goal

abbrev pub invariant-loop-byte : goal.invariant-loop-byte
invariant-loop-byte l = IsSeen l.host l.byte-index l.kinds
