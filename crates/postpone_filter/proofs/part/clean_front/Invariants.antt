use Rattle.std.proofs.Common.{◌≡◌, length}
use Rattle.postpone_filter.specs.Buffers.{clean_parts}
use Rattle.postpone_filter.proofs.part.clean_front.Given as goal

abbrev pub invariant-loop-parts : goal.invariant-loop-parts
invariant-loop-parts l = clean_parts l.parts.items ≡ clean_parts l.initial.parts.items

abbrev pub decreases-loop-parts : goal.decreases-loop-parts
decreases-loop-parts l = length l.parts.items
