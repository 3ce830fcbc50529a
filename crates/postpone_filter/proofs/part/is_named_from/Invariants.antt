use Rattle.std.proofs.Common.{◌≡◌, drop}
use Rattle.postpone_filter.specs.Buffers.{is_named}
use Rattle.postpone_filter.proofs.part.is_named_from.Given as goal

abbrev pub invariant-loop-at : goal.invariant-loop-at
invariant-loop-at l = is_named l.id (drop l.fn.from l.parts.items) ≡ is_named l.id (drop l.at l.parts.items)
