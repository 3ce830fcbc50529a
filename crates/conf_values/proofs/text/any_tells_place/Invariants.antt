use Rattle.std.proofs.Common.{◌≡◌, drop}
use Rattle.std.specs.List.{list_any}
use Rattle.conf_values.specs.Texts.{tells_place}
use Rattle.conf_values.proofs.text.any_tells_place.Given as goal

-- the pieces that are left decide
abbrev pub invariant-loop-piece : goal.invariant-loop-piece
invariant-loop-piece l = list_any tells_place (drop l.piece-index l.pieces) ≡ list_any tells_place l.pieces
