use Rattle.std.proofs.Common.{◌-◌, length}
use Rattle.measuring.specs.Layers.{AreEnough}
use Rattle.measuring.proofs.vertices.vertices.Given as goal

abbrev pub invariant-loop-from : goal.invariant-loop-from
invariant-loop-from g l = AreEnough l.ends.items l.from l.all.items

abbrev pub decreases-loop-from : goal.decreases-loop-from
decreases-loop-from g l = length l.ends.items - l.from
