use Rattle.std.proofs.Common.{◌≡◌, length}
use Rattle.std.specs.List.{list_all}
use Rattle.replay_words.specs.Lines.{pieces_of}
use Rattle.replay_words.specs.Words.{is_word}
use Rattle.replay_words.proofs.words.has_words.Given as goal

-- each piece so far is a word
abbrev pub invariant-pieces : goal.invariant-pieces
invariant-pieces l = list_all is_word (pieces_of l.rest) ≡ list_all is_word (pieces_of l.line)

abbrev pub decreases-pieces : goal.decreases-pieces
decreases-pieces l = length l.rest
