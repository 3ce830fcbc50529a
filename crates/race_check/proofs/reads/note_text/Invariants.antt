use Rattle.std.proofs.Common.{drop}
use Rattle.race_meaning.specs.Reads.{is_piece}
use Rattle.race_check.proofs.Notes.{NotesLeft}
use Rattle.race_check.proofs.reads.note_text.Given as goal

abbrev pub invariant-loop-piece : goal.invariant-loop-piece
invariant-loop-piece l = NotesLeft l.settled l.exposed l.fn.exposed (λ n p. is_piece n p) (drop l.piece-index l.piece-items) l.text
