use Rattle.al_front.proofs.main_seat.Main.append.Given as goal

abbrev pub ghosts-append_as : goal.ghosts-append_as
ghosts-append_as g a = record { bytes = a.entry.now }
