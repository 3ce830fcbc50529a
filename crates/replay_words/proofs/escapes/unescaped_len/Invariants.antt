use Rattle.std.proofs.Common.{◌≡◌, ◌+◌, ◌≤◌, length}
use Rattle.replay_words.specs.Escapes.{unescaped, measured}
use Rattle.replay_words.proofs.escapes.unescaped_len.Given as goal

-- the length so far, and that of what the rest stands for, make the whole
abbrev pub invariant-escapes : goal.invariant-escapes
invariant-escapes l = (measured l.len (unescaped l.rest) ≡ measured 0 (unescaped l.word)) × (l.len + length l.rest ≤ length l.word)

abbrev pub decreases-escapes : goal.decreases-escapes
decreases-escapes l = length l.rest
