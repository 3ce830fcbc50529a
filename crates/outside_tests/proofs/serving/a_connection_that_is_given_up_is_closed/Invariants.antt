use Rattle.outside_tests.proofs.serving.a_connection_that_is_given_up_is_closed.Given as goal

abbrev pub ghosts-is_open_after : goal.ghosts-is_open_after
ghosts-is_open_after g a = record { name = a.blank.name; parts = a.blank.parts }
