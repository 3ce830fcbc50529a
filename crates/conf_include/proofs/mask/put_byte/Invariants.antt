use Rattle.std.proofs.Common.{◌≡◌, ◌≤◌, ◌<◌, ◌+◌, ◌&&◌, ◌||◌, ℕ, eqb, get_or, false}
use Rattle.conf_include.proofs.mask.put_byte.Given as goal

abbrev pub invariant-loop-i : goal.invariant-loop-i
invariant-loop-i l =
    ((k : ℕ) → k < l.i → get_or l.row k false ≡ ((eqb l.byte 63 || eqb l.byte (get_or l.name k 0)) && get_or l.initial.row (k + 1) false))
    × ((k : ℕ) → l.i ≤ k → get_or l.row k false ≡ get_or l.initial.row k false)
