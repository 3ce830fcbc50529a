use Rattle.std.proofs.Common.{◌≡◌, drop}
use Rattle.std.specs.List.{list_any}
use Rattle.rewrite_compile.specs.Numbered.{is_bad}
use Rattle.conf_check.specs.Patterns.{name_patterns}
use Rattle.conf_check.proofs.patterns.names_flaw.Given as goal

-- the words that are left decide
abbrev pub invariant-loop-word : goal.invariant-loop-word
invariant-loop-word g l = record {
  same : list_any is_bad (name_patterns (drop l.word-index l.words)) ≡ list_any is_bad (name_patterns l.words);
  spared : g.M.PatternMaker.refusals l.maker ≡ g.M.PatternMaker.refusals l.fn.maker;
}
