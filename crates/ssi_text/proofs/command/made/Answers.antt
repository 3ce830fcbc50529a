use Rattle.std.proofs.Common.{◌∙◌, ap, sym, drop, Some, None}
use Rattle.ssi_text.specs.declared.part.Part.TheVariants.{Command}
use Rattle.ssi_text.specs.Commands.{params}
use Rattle.ssi_text.proofs.Insides.{made-nameless, made-is}
use Rattle.ssi_text.proofs.command.made.Goals as goal

pub returns-then-len-eq0 : goal.returns-then-len-eq0
returns-then-len-eq0 c = made-nameless c.args.inside.now c.rest_of-bytes.result.now c.word_len-len.result (c.rest_of-bytes.ensures ∙ ap (λ n. drop n c.args.inside.now) c.space_len.ensures.value) c.word_len-len.ensures.value c.if-len-eq0.true

pub returns-in_ok-name-in-Some : goal.returns-in_ok-name-in-Some
returns-in_ok-name-in-Some c =
    ap (λ z. Command z c.in-Some.params) c.in_ok-name-in-Some.ensures
    ∙ made-is c.args.inside.now c.rest_of-bytes.result.now c.word_len-len.result (Some c.in-Some.params) (c.rest_of-bytes.ensures ∙ ap (λ n. drop n c.args.inside.now) c.space_len.ensures.value) c.word_len-len.ensures.value c.if-len-eq0.false
    (sym c.in-Some.is ∙ c.in_ok-params.ensures ∙ ap params c.rest_of.ensures)

pub returns-in-None : goal.returns-in-None
returns-in-None c =
    made-is c.args.inside.now c.rest_of-bytes.result.now c.word_len-len.result None (c.rest_of-bytes.ensures ∙ ap (λ n. drop n c.args.inside.now) c.space_len.ensures.value) c.word_len-len.ensures.value c.if-len-eq0.false
    (sym c.in-None.is ∙ c.in_ok-params.ensures ∙ ap params c.rest_of.ensures)
