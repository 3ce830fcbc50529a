use Rattle.std.proofs.Common.{drop}
use Rattle.race_meaning.specs.Reads.{in_text}
use Rattle.race_check.proofs.Notes.{NotesLeft}
use Rattle.race_check.proofs.values.note_texts.Given as goal

abbrev pub invariant-loop-text : goal.invariant-loop-text
invariant-loop-text l = NotesLeft l.settled l.exposed l.fn.exposed (λ n x. in_text n x) (drop l.text-index l.texts) l.texts
