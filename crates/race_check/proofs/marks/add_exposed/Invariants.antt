use Rattle.std.proofs.Common.{◌≡◌, ℕ, ◌||◌, not, false, List, drop}
use Rattle.std.specs.List.{list_all}
use Rattle.site_views.specs.Pattern.{Pattern}
use Rattle.site_model.specs.Levels.{raw_level}
use Rattle.site_whole.specs.Whole.{program_seen}
use Rattle.race_meaning.specs.Reads.{is_private_in}
use Rattle.race_check.specs.Names.{has}
use Rattle.race_check.proofs.marks.add_exposed.Given as goal

abbrev pub invariant-loop-number : goal.invariant-loop-number
invariant-loop-number l =
    (patterns : List Pattern) (name : List ℕ) →
    (not (list_all (λ n. is_private_in name false 0 (program_seen patterns l.site (raw_level l.site n))) (drop l.number-index l.levels)) || has l.exposed name)
    ≡ (not (list_all (λ n. is_private_in name false 0 (program_seen patterns l.site (raw_level l.site n))) l.levels) || has l.fn.exposed name)
