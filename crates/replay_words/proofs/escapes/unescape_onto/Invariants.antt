use Rattle.std.proofs.Common.{◌≡◌, length}
use Rattle.replay_words.specs.Escapes.{unescaped, onto}
use Rattle.replay_words.proofs.escapes.unescape_onto.Given as goal

-- what is there, and what the rest stands for, make the whole
abbrev pub invariant-escapes : goal.invariant-escapes
invariant-escapes l = onto l.out.items (unescaped l.rest) ≡ onto l.fn.out.items (unescaped l.word)

abbrev pub decreases-escapes : goal.decreases-escapes
decreases-escapes l = length l.rest
