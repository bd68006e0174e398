use Rattle.al_front_tests.proofs.tests.seven_and_a_raise.Given as goal

abbrev pub ghosts-raised : goal.ghosts-raised
ghosts-raised g a = record { table = a.made.table; base = a.made.base }
