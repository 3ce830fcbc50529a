use Rattle.std.proofs.Common.{◌≡◌, drop}
use Rattle.std.specs.List.{list_any}
use Rattle.conf_values.specs.Listening.{is_default}
use Rattle.conf_values.proofs.address.has_default.Given as goal

-- the words that are left decide
abbrev pub invariant-loop-word : goal.invariant-loop-word
invariant-loop-word l = list_any is_default (drop l.word-index l.words) ≡ list_any is_default l.words
