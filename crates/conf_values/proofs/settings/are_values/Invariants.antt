use Rattle.std.proofs.Common.{◌≡◌, drop}
use Rattle.std.specs.List.{list_all}
use Rattle.conf_values.specs.Settings.{is_value}
use Rattle.conf_values.proofs.settings.are_values.Given as goal

-- the words that are left decide
abbrev pub invariant-loop-word : goal.invariant-loop-word
invariant-loop-word l = list_all (is_value l.setting) (drop l.word-index l.words) ≡ list_all (is_value l.setting) l.words
