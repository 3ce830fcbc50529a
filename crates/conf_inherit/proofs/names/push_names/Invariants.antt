use Rattle.std.proofs.Common.{drop, map}
use Rattle.conf_lists.specs.Hosts.{name_of}
use Rattle.conf_inherit.proofs.NameLaws.{NamesSoFar}
use Rattle.conf_inherit.proofs.names.push_names.Given as goal

-- the names so far, and those of the words that are left
abbrev pub invariant-loop-word : goal.invariant-loop-word
invariant-loop-word g l = NamesSoFar l.fn.patterns l.patterns l.fn.names.items l.names.items (map name_of (drop l.word-index l.words)) (map name_of l.words)
