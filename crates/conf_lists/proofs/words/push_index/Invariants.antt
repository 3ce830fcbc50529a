use Rattle.std.proofs.Common.{◌≡◌, ◌++◌, drop, map}
use Rattle.site_whole.specs.Whole.{index_seen}
use Rattle.conf_lists.specs.Words.{index_name}
use Rattle.conf_lists.proofs.words.push_index.Given as goal

-- the names so far, and those of the words that are left
abbrev pub invariant-loop-word : goal.invariant-loop-word
invariant-loop-word l = map index_seen l.names.items ++ map index_name (drop l.word-index l.words) ≡ map index_seen l.fn.names.items ++ map index_name l.words
