use Rattle.outside_tests.proofs.serving.a_core_is_given_what_was_answered.Given as goal

abbrev pub ghosts-lines_given : goal.ghosts-lines_given
ghosts-lines_given g a = record { name = a.blank.name; parts = a.blank.parts }
