use Rattle.std.proofs.Common.{◌≡◌, length}
use Rattle.replay_words.specs.Sums.{terms_of}
use Rattle.replay_words.specs.Steps.{term_views, with_terms}
use Rattle.replay_words.proofs.sums.terms_of.Given as goal

-- the terms so far, and those in the words that are left
abbrev pub invariant-terms : goal.invariant-terms
invariant-terms l = with_terms (term_views l.terms.items) (terms_of l.words) ≡ terms_of l.fn.words

abbrev pub decreases-terms : goal.decreases-terms
decreases-terms l = length l.words
