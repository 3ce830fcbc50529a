use Rattle.std.proofs.Common.{drop}
use Rattle.site_whole.specs.Whole.{target_seen}
use Rattle.race_meaning.specs.Reads.{in_target}
use Rattle.race_check.proofs.Notes.{NotesLeft}
use Rattle.race_check.proofs.values.note_pages.Given as goal

abbrev pub invariant-loop-rule : goal.invariant-loop-rule
invariant-loop-rule l = NotesLeft l.settled l.exposed l.fn.exposed (λ n x. in_target n (target_seen x.target)) (drop l.rule-index l.rules) l.rules
