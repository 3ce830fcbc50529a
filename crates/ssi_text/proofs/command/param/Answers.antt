use Rattle.std.proofs.Common.{◌∙◌, ap, take}
use Rattle.std.proofs.lemmas.List.{length-take-le}
use Rattle.ssi_text.specs.Commands.{assigned}
use Rattle.ssi_text.proofs.Insides.{param-none, param-is}
use Rattle.ssi_text.proofs.command.param.Goals as goal

pub returns-then-len-eq0-clause-value : goal.returns-then-len-eq0-clause-value
returns-then-len-eq0-clause-value c = param-none c.word_len-len.result c.args.bytes.now c.word_len-len.ensures.value c.if-len-eq0.true

pub returns-clause-value : goal.returns-clause-value
returns-clause-value c =
    let n = c.word_len-len.result in
    let bytes = c.args.bytes.now in
    c.in_ok-found.ensures.value
    ∙ ap (λ k. assigned (take n bytes) k c.rest_of.result.now) (length-take-le n bytes c.word_len-len.ensures.within)
    ∙ ap (assigned (take n bytes) n) c.rest_of.ensures
    ∙ param-is n bytes c.word_len-len.ensures.value c.if-len-eq0.false
