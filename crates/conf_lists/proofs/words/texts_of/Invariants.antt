use Rattle.std.proofs.Common.{◌≡◌, ◌++◌, drop, map}
use Rattle.conf_values.specs.Texts.{pieces_of}
use Rattle.conf_lists.proofs.words.texts_of.Given as goal

-- the texts so far, and those of the words that are left
abbrev pub invariant-loop-word : goal.invariant-loop-word
invariant-loop-word l = l.texts.items ++ map pieces_of (drop l.word-index l.words) ≡ map pieces_of l.words
