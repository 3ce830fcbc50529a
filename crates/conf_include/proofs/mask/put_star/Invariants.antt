use Rattle.std.proofs.Common.{◌≡◌, ◌≤◌, ◌<◌, ℕ, get_or, false, length}
use Rattle.conf_include.proofs.MaskLaws.{some_from}
use Rattle.conf_include.proofs.mask.put_star.Given as goal

abbrev pub invariant-loop-at : goal.invariant-loop-at
invariant-loop-at l =
    (l.at ≤ length l.initial.row)
    × (l.some ≡ some_from l.initial.row l.at)
    × ((k : ℕ) → k < l.at → get_or l.row k false ≡ get_or l.initial.row k false)
    × ((k : ℕ) → l.at ≤ k → k < length l.initial.row → get_or l.row k false ≡ some_from l.initial.row k)

abbrev pub decreases-loop-at : goal.decreases-loop-at
decreases-loop-at l = l.at
