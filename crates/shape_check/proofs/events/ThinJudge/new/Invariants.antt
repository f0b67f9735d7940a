use Rattle.shape_check.proofs.events.ThinJudge.new.Given as goal

abbrev pub ghosts-begun : goal.ghosts-begun
ghosts-begun g a = record { name = a.blank.name; parts = a.blank.parts }
