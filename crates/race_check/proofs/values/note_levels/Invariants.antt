use Rattle.std.proofs.Common.{drop}
use Rattle.site_model.specs.Levels.{raw_level}
use Rattle.race_check.specs.Lists.{in_own}
use Rattle.race_check.proofs.Notes.{NotesLeft}
use Rattle.race_check.proofs.values.note_levels.Given as goal

abbrev pub invariant-loop-number : goal.invariant-loop-number
invariant-loop-number l = NotesLeft l.settled l.exposed l.fn.exposed (λ name n. in_own name (raw_level l.site n)) (drop l.number-index l.levels) l.levels
