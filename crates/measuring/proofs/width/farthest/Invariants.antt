use Rattle.measure_terms.specs.Widths.{IsReach}
use Rattle.measuring.specs.Corners.{corners}
use Rattle.measuring.proofs.width.farthest.Given as goal

abbrev pub invariant-loop-k : goal.invariant-loop-k
invariant-loop-k l = IsReach (corners l.round) l.i l.k l.far
