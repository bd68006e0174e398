use Rattle.al_front_tests.proofs.tests.threads_at_once.Given as goal

abbrev pub ghosts-at_once : goal.ghosts-at_once
ghosts-at_once g a = record { table = a.made.table; base = a.made.base }
