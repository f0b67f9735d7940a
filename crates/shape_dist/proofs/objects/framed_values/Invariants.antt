use Rattle.std.proofs.Common.{◌*◌}
use Rattle.shape_dist.specs.Objects.{AreValuesTo}
use Rattle.shape_dist.proofs.objects.framed_values.Given as goal

abbrev pub invariant-loop-t : goal.invariant-loop-t
invariant-loop-t g l = AreValuesTo l.grid (l.t * l.side) l.objects
