use Rattle.std.proofs.Common.{◌≡◌, drop}
use Rattle.std.specs.List.{list_any}
use Rattle.site_model.specs.Levels.{raw_level}
use Rattle.site_whole.specs.Whole.{values_seen}
use Rattle.race_check.proofs.levels.has_documents.Given as goal

abbrev pub invariant-loop-number : goal.invariant-loop-number
invariant-loop-number l =
    list_any (λ n. (values_seen l.site (raw_level l.site n)).ssi) (drop l.number-index l.levels)
    ≡ list_any (λ n. (values_seen l.site (raw_level l.site n)).ssi) l.levels
