use Rattle.std.proofs.Common.{◌≡◌, drop}
use Rattle.replay_words.specs.Escapes.{onto}
use Rattle.replay_words.specs.Sums.{sum_bytes}
use Rattle.replay_words.specs.Steps.{counted_views}
use Rattle.replay_words.proofs.sums.sum_onto.Given as goal

-- what is there, and the bytes of the terms that are left, make the whole
abbrev pub invariant-loop-term : goal.invariant-loop-term
invariant-loop-term l =
    onto l.out.items (sum_bytes (counted_views (drop l.term-index l.terms))) ≡ onto l.fn.out.items (sum_bytes (counted_views l.terms))
