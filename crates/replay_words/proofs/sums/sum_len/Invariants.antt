use Rattle.std.proofs.Common.{◌≡◌, ◌≤◌, ◌-◌, ◌^◌, drop}
use Rattle.replay_words.specs.Sums.{sum_bytes}
use Rattle.replay_words.specs.Steps.{counted_views, capped}
use Rattle.replay_words.proofs.sums.sum_len.Given as goal

-- the length so far, and that of the terms that are left
abbrev pub invariant-loop-term : goal.invariant-loop-term
invariant-loop-term l =
    (capped l.total (sum_bytes (counted_views (drop l.term-index l.terms))) ≡ capped 0 (sum_bytes (counted_views l.terms))) × (l.total ≤ 2 ^ 64 - 1)
