use Rattle.std.proofs.Common.{◌≡◌, drop}
use Rattle.replay_words.specs.Sums.{counts_of}
use Rattle.replay_words.specs.Steps.{term_views, counted_views, with_counted}
use Rattle.replay_words.proofs.sums.counts_of.Given as goal

-- the numbers so far, and those of the terms that are left
abbrev pub invariant-loop-term : goal.invariant-loop-term
invariant-loop-term l =
    with_counted (counted_views l.counted.items) (counts_of (term_views (drop l.term-index l.terms))) ≡ counts_of (term_views l.terms)
