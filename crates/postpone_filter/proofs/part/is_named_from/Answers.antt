use Rattle.std.proofs.Common.{◌∙◌, ◌==◌, sym, ap, arith}
use Rattle.std.proofs.lemmas.Bool.{ne_eqb}
use Rattle.postpone_filter.specs.declared.part.Part.{Part}
use Rattle.postpone_filter.proofs.Parts.{is_named-on, is_named-past}
use Rattle.postpone_filter.proofs.part.is_named_from.Goals as goal

pub loop-at-preserved : goal.loop-at-preserved
loop-at-preserved c =
    c.loop-at.invariant
    ∙ is_named-on c.args.id c.args.parts.now.items c.loop-at.at c.index.result.now (omega arith) (ap (λ (s : Part). s.node == c.args.id) (sym c.index.ensures) ∙ ne_eqb c.index.result.now.node c.args.id c.if-index-id.false)

pub returns : goal.returns
returns c = λ _. c.loop-at.invariant ∙ is_named-past c.args.id c.args.parts.now.items c.loop-at.at (omega arith)
