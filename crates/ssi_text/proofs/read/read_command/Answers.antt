use Rattle.std.proofs.Common.{ap, ◌∙◌, arith, length}
use Rattle.ssi_text.proofs.Onward.{some-params, read-command}
use Rattle.ssi_text.proofs.read.read_command.Goals as goal

pub returns-in_ok-name-in-Some : goal.returns-in_ok-name-in-Some
returns-in_ok-name-in-Some c =
    let n = c.name_len-len.result in
    read-command c.args.bytes.now c.rest_of-named.result.now c.rest_of.result.now c.in_ok-name-in-Some.name c.space_len-before.result n c.in-Some.used c.in-Some.params c.in_ok-name-in-Some.ensures c.space_len-before.ensures.value c.rest_of-named.ensures
    (c.name_len-len.ensures.word (omega (arith, c.if-len-eq0.false))) c.name_len-len.ensures.plain c.if-len-eq0.false c.rest_of.ensures (some-params c.in_ok-params.field-0 c.in-Some.params c.in-Some.used c.rest_of.result.now c.in_ok-params.ensures c.in-Some.is)
