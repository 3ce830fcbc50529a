use Rattle.std.proofs.Common.{◌≡◌, ◌++◌, drop}
use Rattle.conf_lists.specs.Words.{codes_in}
use Rattle.conf_lists.proofs.words.codes_in.Given as goal

-- the codes so far, and those of the words that are left
abbrev pub invariant-loop-word : goal.invariant-loop-word
invariant-loop-word l = l.codes.items ++ codes_in (drop l.word-index l.words) ≡ codes_in l.words
