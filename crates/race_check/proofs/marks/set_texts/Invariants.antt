use Rattle.std.proofs.Common.{◌≡◌, ℕ, List, drop, flat_map, None}
use Rattle.site_views.specs.Pattern.{Pattern}
use Rattle.site_model.specs.Levels.{raw_level}
use Rattle.site_whole.specs.Whole.{program_seen}
use Rattle.race_meaning.specs.Named.{set_text}
use Rattle.race_check.specs.Texts.{known, told}
use Rattle.race_check.proofs.marks.set_texts.Given as goal

abbrev pub invariant-loop-number : goal.invariant-loop-number
invariant-loop-number l =
    (patterns : List Pattern) (name : List ℕ) →
    told (known l.texts name) (flat_map (λ n. flat_map (set_text name) (program_seen patterns l.site (raw_level l.site n))) (drop l.number-index l.levels))
    ≡ told None (flat_map (λ n. flat_map (set_text name) (program_seen patterns l.site (raw_level l.site n))) l.levels)
