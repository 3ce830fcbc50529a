use Rattle.std.proofs.Common.{◌≡◌, drop}
use Rattle.std.specs.List.{list_any}
use Rattle.site_model.specs.Levels.{raw_level}
use Rattle.site_whole.specs.Whole.{values_seen}
use Rattle.race_meaning.specs.Named.{has_parts}
use Rattle.race_check.proofs.levels.has_open.Given as goal

abbrev pub invariant-loop-number : goal.invariant-loop-number
invariant-loop-number l =
    list_any (λ n. has_parts (values_seen l.site (raw_level l.site n))) (drop l.number-index l.levels)
    ≡ list_any (λ n. has_parts (values_seen l.site (raw_level l.site n))) l.levels
