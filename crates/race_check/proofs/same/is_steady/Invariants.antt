use Rattle.std.proofs.Common.{◌≡◌, drop}
use Rattle.std.specs.List.{list_all}
use Rattle.race_meaning.specs.Named.{is_steady_piece}
use Rattle.race_check.proofs.same.is_steady.Given as goal

abbrev pub invariant-loop-piece : goal.invariant-loop-piece
invariant-loop-piece l = list_all is_steady_piece (drop l.piece-index l.piece-items) ≡ list_all is_steady_piece l.text
