use Rattle.std.proofs.Common.{◌≡◌, drop}
use Rattle.postpone_filter.specs.Buffers.{has_place}
use Rattle.postpone_filter.proofs.part.find_from.Given as goal

abbrev pub invariant-loop-at : goal.invariant-loop-at
invariant-loop-at l = l.fn.from ≡ 0 → has_place l.id l.parts.items ≡ has_place l.id (drop l.at l.parts.items)
