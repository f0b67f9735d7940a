use Rattle.std.proofs.Common.{◌-◌, length}
use Rattle.measuring.specs.Spaced.{spacing_told}
use Rattle.measuring.specs.Farthest.{IsBestWith}
use Rattle.measuring.proofs.farthest.with_site.Given as goal

abbrev pub invariant-loop-k : goal.invariant-loop-k
invariant-loop-k l = IsBestWith (spacing_told l.spacing) l.sites l.at (length l.sites - l.k) l.fn.best l.best
