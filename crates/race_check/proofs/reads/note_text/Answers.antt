use Rattle.std.proofs.Common.{drop, arith}
use Rattle.race_meaning.specs.Reads.{is_piece, in_text}
use Rattle.race_check.proofs.Lists.{all_over}
use Rattle.race_check.proofs.Notes.{left_end}
use Rattle.race_check.proofs.reads.note_text.Goals as goal

pub returns : goal.returns
unfolding in_text
returns c = left_end c.args.settled.now c.loop-piece.exposed c.args.exposed.now (drop c.loop-piece.piece-index c.pieces-piece-items.result.now) c.args.text.now (all_over c.pieces-piece-items.result.now c.loop-piece.piece-index (omega arith)) (λ n p. is_piece n p) c.loop-piece.invariant
