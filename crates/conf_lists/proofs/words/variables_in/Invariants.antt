use Rattle.std.proofs.Common.{◌≡◌, ◌++◌, drop}
use Rattle.conf_lists.specs.Words.{variables_in}
use Rattle.conf_lists.proofs.words.variables_in.Given as goal

-- the variables so far, and those of the words that are left
abbrev pub invariant-loop-word : goal.invariant-loop-word
invariant-loop-word l = l.names ++ variables_in (drop l.word-index l.words) ≡ variables_in l.words
