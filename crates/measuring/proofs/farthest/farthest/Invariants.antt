use Rattle.measuring.specs.Spaced.{spacing_told}
use Rattle.measuring.specs.Farthest.{IsBest}
use Rattle.measuring.proofs.farthest.farthest.Given as goal

abbrev pub invariant-loop-at : goal.invariant-loop-at
invariant-loop-at l = IsBest (spacing_told l.spacing) l.sites l.at l.best
