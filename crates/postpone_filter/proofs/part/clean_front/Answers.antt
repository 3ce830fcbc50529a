use Rattle.std.proofs.Common.{◌∙◌, sym, ap}
use Rattle.postpone_filter.specs.Buffers.{clean_parts}
use Rattle.postpone_filter.proofs.Parts.{clean_parts-over, clean_parts-done}
use Rattle.postpone_filter.proofs.part.clean_front.Goals as goal

pub loop-parts-preserved : goal.loop-parts-preserved
loop-parts-preserved c = ap clean_parts c.pop_front.ensures.rest ∙ clean_parts-over c.loop-parts.parts.items (sym c.first_is_over.ensures ∙ c.loop-parts-test.true) ∙ c.loop-parts.invariant

pub returns : goal.returns
returns c = clean_parts-done c.loop-parts.parts.items (sym c.first_is_over.ensures ∙ c.loop-parts-test.false) ∙ c.loop-parts.invariant
