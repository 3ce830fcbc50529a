use Rattle.std.proofs.Common.{◌≡◌, ◌++◌, drop, map}
use Rattle.conf_races.proofs.lines.push_words.Given as goal

abbrev pub invariant-loop-word : goal.invariant-loop-word
invariant-loop-word l = l.lines.items ++ map (λ w. l.line) (drop l._word-index l.words) ≡ l.fn.lines.items ++ map (λ w. l.line) l.words
