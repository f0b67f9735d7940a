use Rattle.shape_terms.specs.Points.{sides_of}
use Rattle.measuring.specs.FeretsTold.{flat}
use Rattle.measuring.specs.Seen.{HaveRows}
use Rattle.measuring.proofs.rows_of_objects.outlines.Given as goal

abbrev pub invariant-loop-i : goal.invariant-loop-i
invariant-loop-i l = HaveRows (sides_of (flat l.sides.lengths)) l.labels l.count l.i l.all.items
