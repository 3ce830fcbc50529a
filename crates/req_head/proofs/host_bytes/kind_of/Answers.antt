use Rattle.std.proofs.Common.{refl, arith}
use Rattle.req_head.specs.declared.host_bytes.TheConstants.{KINDS}
use Rattle.req_head.specs.HostBytes.{kind_of}
use Rattle.req_head.proofs.HostLemmas.{agree_below, from_table}
use Rattle.req_head.proofs.host_bytes.kind_of.Goals as goal

pub returns : goal.returns
unfolding agree_below kind_of
returns c = from_table KINDS c.args.byte (omega arith) refl
