use Rattle.location_match.proofs.list.Prefixes.find.Given as goal

abbrev pub ghosts-find_by : goal.ghosts-find_by
ghosts-find_by a = record { name = a.blank.name; parts = a.blank.parts }
