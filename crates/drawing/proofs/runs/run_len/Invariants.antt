use Rattle.drawing.specs.Seen.{flats}
use Rattle.drawing.proofs.RunLaws.{GoesOn}
use Rattle.drawing.proofs.runs.run_len.Given as goal

abbrev pub invariant-loop-i : goal.invariant-loop-i
invariant-loop-i l = GoesOn (flats l.points) l.i
