use Rattle.shape_tests.proofs.space.four_cells.Given as goal

abbrev pub ghosts-cells_found : goal.ghosts-cells_found
ghosts-cells_found g a = record { name = a.blank.name; parts = a.blank.parts }
