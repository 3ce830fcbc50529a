use Rattle.std.proofs.Common.{◌∙◌, sym, ap, arith}
use Rattle.postpone_filter.specs.Buffers.{is_part_place}
use Rattle.postpone_filter.proofs.Parts.{has_place-on, has_place-past}
use Rattle.postpone_filter.proofs.part.find_from.Goals as goal

pub loop-at-preserved : goal.loop-at-preserved
loop-at-preserved c = λ e.
    c.loop-at.invariant e
    ∙ has_place-on c.args.id c.args.parts.now.items c.loop-at.at c.index.result.now (omega arith) (ap (is_part_place c.args.id) (sym c.index.ensures) ∙ sym c.is_place.ensures ∙ c.if-is_place.false)

pub returns-clause-none : goal.returns-clause-none
returns-clause-none c = λ _ e. c.loop-at.invariant e ∙ has_place-past c.args.id c.args.parts.now.items c.loop-at.at (omega arith)
