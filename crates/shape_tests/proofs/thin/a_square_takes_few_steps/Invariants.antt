use Rattle.shape_tests.proofs.thin.a_square_takes_few_steps.Given as goal

abbrev pub ghosts-counted : goal.ghosts-counted
ghosts-counted g a = record { name = a.blank.name; parts = a.blank.parts }
