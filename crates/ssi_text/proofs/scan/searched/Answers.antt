use Rattle.std.proofs.Common.{ap, ◌∙◌, ◌+◌}
use Rattle.ssi_text.specs.declared.part.Front.TheVariants.{Whole}
use Rattle.ssi_text.specs.Split.{begun}
use Rattle.ssi_text.specs.Commands.{Outside, size, made}
use Rattle.ssi_text.proofs.Steps.{begun-bad, begun-open, begun-some}
use Rattle.ssi_text.proofs.scan.searched.Goals as goal

pub returns-in_ok-part-in-Some : goal.returns-in_ok-part-in-Some
returns-in_ok-part-in-Some c =
    ap (λ p. Whole p (5 + c.in-Some.n)) (c.in_ok-part-in-Some.ensures ∙ ap made c.inside_of.ensures)
    ∙ begun-some c.args.bytes.now c.in-Some.n
    ∙ ap (begun c.args.bytes.now) (c.in-Some.ensures.value ∙ ap (size Outside) c.behind_opening.ensures.value)

pub returns-then-bytes-ge-LIMIT : goal.returns-then-bytes-ge-LIMIT
returns-then-bytes-ge-LIMIT c = begun-bad c.args.bytes.now c.if-bytes-ge-LIMIT.true ∙ ap (begun c.args.bytes.now) (c.in-None.ensures.value ∙ ap (size Outside) c.behind_opening.ensures.value)

pub returns-else-bytes-ge-LIMIT : goal.returns-else-bytes-ge-LIMIT
returns-else-bytes-ge-LIMIT c = begun-open c.args.bytes.now c.if-bytes-ge-LIMIT.false ∙ ap (begun c.args.bytes.now) (c.in-None.ensures.value ∙ ap (size Outside) c.behind_opening.ensures.value)
