use Rattle.std.proofs.Common.{arith, refl, take}
use Rattle.ssi_text.proofs.Onward.{read-found}
use Rattle.ssi_text.proofs.read.read_param.Goals as goal

pub returns : goal.returns
returns c =
    let n = c.name_len-len.result in
    read-found n c.args.bytes.now (take n c.args.bytes.now) c.rest_of.result.now _ (c.name_len-len.ensures.word (omega (arith, c.if-len-eq0.false))) c.name_len-len.ensures.plain c.if-len-eq0.false c.name_len-len.ensures.within refl c.rest_of.ensures c.in_ok-found.ensures.value c.in_ok-found.ensures.within
