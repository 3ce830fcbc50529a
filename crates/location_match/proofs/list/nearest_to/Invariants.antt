use Rattle.location_match.proofs.list.nearest_to.Given as goal

abbrev pub ghosts-nearest_by : goal.ghosts-nearest_by
ghosts-nearest_by a = record { name = a.blank.name; parts = a.blank.parts }
