use Rattle.al_bytes_tests.proofs.digest.digests.Given as goal

abbrev pub ghosts-node_of : goal.ghosts-node_of
ghosts-node_of g a = record { name = a.blank.name; parts = a.blank.parts }
