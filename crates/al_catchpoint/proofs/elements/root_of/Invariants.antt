use Rattle.al_catchpoint.proofs.elements.root_of.Given as goal

abbrev pub ghosts-root : goal.ghosts-root
ghosts-root a = record { name = a.blank.name; parts = a.blank.parts }
