use Rattle.std.proofs.Common.{drop}
use Rattle.race_meaning.specs.Reads.{in_text}
use Rattle.race_check.proofs.Notes.{NotesLeft}
use Rattle.race_check.proofs.values.note_auth_texts.Given as goal

abbrev pub invariant-loop-set : goal.invariant-loop-set
invariant-loop-set l = NotesLeft l.settled l.exposed l.fn.exposed (λ n x. in_text n x.text) (drop l.set-index l.sets) l.sets
