use Rattle.std.proofs.Common.{drop}
use Rattle.shape_refute.specs.Sums.{AreSteps}
use Rattle.shape_refute.proofs.refutation.are_steps.Given as goal

abbrev pub invariant-loop-i : goal.invariant-loop-i
invariant-loop-i l = AreSteps l.dim l.axis (drop l.i l.shares)
