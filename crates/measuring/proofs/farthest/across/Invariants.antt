use Rattle.measuring.specs.Farthest.{AreBetween}
use Rattle.measuring.proofs.farthest.across.Given as goal

abbrev pub invariant-loop-site : goal.invariant-loop-site
invariant-loop-site l = AreBetween l.sites l.site-index l.left l.right l.top l.bottom
