use Rattle.shape_plane.specs.Ranges.{IsNarrower, IsClear}
use Rattle.shape_plane.proofs.range.crossed.Given as goal

abbrev pub invariant-loop-i : goal.invariant-loop-i
invariant-loop-i l = IsNarrower l.rows l.fn.old (IsClear l.rows l.j l.i) l.best
