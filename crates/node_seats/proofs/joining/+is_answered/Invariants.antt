use Rattle.node_seats.proofs.joining.+is_answered.Given as goal

abbrev pub decreases-is_answered : goal.decreases-is_answered
decreases-is_answered l = l.levels
