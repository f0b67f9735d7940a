use Rattle.measuring.specs.Corners.{corners}
use Rattle.measuring.proofs.Narrowing.{first_reach, next_reach}
use Rattle.measuring.proofs.width.farthest.Goals as goal

pub loop-k-init : goal.loop-k-init
loop-k-init c = first_reach (corners c.args.round.now) c.args.i

pub loop-k-preserved : goal.loop-k-preserved
loop-k-preserved c = next_reach (corners c.args.round.now) c.args.i c.loop-k.far c.loop-k.k c.farther-far.result c.loop-k.invariant c.farther-far.ensures
