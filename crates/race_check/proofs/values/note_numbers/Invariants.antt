use Rattle.std.proofs.Common.{drop}
use Rattle.race_check.specs.Lists.{in_list}
use Rattle.race_check.proofs.Notes.{NotesLeft}
use Rattle.race_check.proofs.values.note_numbers.Given as goal

abbrev pub invariant-loop-number : goal.invariant-loop-number
invariant-loop-number l = NotesLeft l.settled l.exposed l.fn.exposed (λ name n. in_list l.site l.kind name n) (drop l.number-index l.numbers) l.numbers
