use Rattle.std.proofs.Common.{refl}
use Rattle.shape_plane.proofs.weights.put_weights.Goals as goal

pub returns : goal.returns
returns c = rw (c.with_up.ensures, c.rest_of.ensures, c.with_multiple-2.ensures.rows, c.with_multiple.ensures.rows, c.nothing.ensures) refl
