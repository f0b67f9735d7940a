use Rattle.std.proofs.Common.{arith}
use Rattle.shape_dist.proofs.spread.rows_end.Goals as goal

pub overflow_mul-z : goal.overflow_mul-z
overflow_mul-z g c = omega (arith, c.requires.inside c.loop-z.z (omega arith), c.requires.few)
