use Rattle.node_seats.proofs.seats.+is_heard.Given as goal

abbrev pub decreases-is_heard : goal.decreases-is_heard
decreases-is_heard l = l.levels
