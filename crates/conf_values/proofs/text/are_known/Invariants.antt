use Rattle.std.proofs.Common.{◌≡◌, drop}
use Rattle.std.specs.List.{list_all}
use Rattle.conf_values.specs.TextSet.{holds}
use Rattle.conf_values.specs.Texts.{is_known}
use Rattle.conf_values.proofs.text.are_known.Given as goal

-- the pieces that are left decide
abbrev pub invariant-loop-piece : goal.invariant-loop-piece
invariant-loop-piece l = list_all (is_known (holds l.known.keys)) (drop l.piece-index l.pieces) ≡ list_all (is_known (holds l.known.keys)) l.pieces
