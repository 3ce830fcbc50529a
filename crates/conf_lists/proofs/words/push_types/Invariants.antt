use Rattle.std.proofs.Common.{◌≡◌, drop}
use Rattle.site_whole.specs.Whole.{media_seen}
use Rattle.conf_lists.specs.Words.{with_types}
use Rattle.conf_lists.proofs.words.push_types.Given as goal

-- the types so far, with those of the words that are left
abbrev pub invariant-loop-word : goal.invariant-loop-word
invariant-loop-word l = with_types (media_seen l.media) (drop l.word-index l.words) ≡ with_types (media_seen l.fn.media) l.words
