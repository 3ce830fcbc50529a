use Rattle.std.proofs.Common.{◌≡◌, ◌++◌, drop}
use Rattle.ssi_values.specs.Known.{known_seen}
use Rattle.ssi_values.specs.Dated.{inner_values, root_value}
use Rattle.ssi_values.proofs.dated.root_text.Given as goal

abbrev pub invariant-loop-piece : goal.invariant-loop-piece
invariant-loop-piece l = l.text ++ inner_values (known_seen l.sight) (drop l.piece-index l.piece-items) ≡ root_value (known_seen l.sight) l.place
