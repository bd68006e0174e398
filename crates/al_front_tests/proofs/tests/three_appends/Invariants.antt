use Rattle.al_front_tests.proofs.tests.three_appends.Given as goal

abbrev pub ghosts-appended : goal.ghosts-appended
ghosts-appended g a = record { table = a.made.table; base = a.made.base }
