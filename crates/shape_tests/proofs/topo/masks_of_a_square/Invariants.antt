use Rattle.shape_tests.proofs.topo.masks_of_a_square.Given as goal

abbrev pub ghosts-first_rows : goal.ghosts-first_rows
ghosts-first_rows g a = record { name = a.blank.name; parts = a.blank.parts }
