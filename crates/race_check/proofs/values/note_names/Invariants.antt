use Rattle.std.proofs.Common.{drop}
use Rattle.race_meaning.specs.Reads.{in_text}
use Rattle.race_check.proofs.Notes.{NotesLeft}
use Rattle.race_check.proofs.values.note_names.Given as goal

abbrev pub invariant-loop-name : goal.invariant-loop-name
invariant-loop-name l = NotesLeft l.settled l.exposed l.fn.exposed (λ n x. in_text n x.text) (drop l.name-index l.names) l.names
