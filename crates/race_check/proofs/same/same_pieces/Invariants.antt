use Rattle.std.proofs.Common.{◌≡◌, drop}
use Rattle.race_meaning.specs.Named.{same_text}
use Rattle.race_check.proofs.same.same_pieces.Given as goal

abbrev pub invariant-loop-at : goal.invariant-loop-at
invariant-loop-at l = same_text (drop l.at l.a) (drop l.at l.b) ≡ same_text l.a l.b
