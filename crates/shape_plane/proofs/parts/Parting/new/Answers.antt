use Rattle.std.proofs.Common.{refl}
use Rattle.shape_terms.specs.Points.{sides_of}
use Rattle.shape_plane.proofs.Passing.{ready_first}
use Rattle.shape_plane.proofs.parts.Parting.new.Goals as goal

pub invariant_of-result : goal.invariant_of-result
invariant_of-result g c = λ _.
    ready_first g.P.Point.DIM c.args.axis c.args.left c.in_ok-tried.tried (sides_of (g.P.Point.coords c.in_ok-near.near.sides.lengths))
    (sides_of (g.P.Point.coords c.sides-sides.result.lengths)) c.requires.axis c.sides-sides.ensures.value c.in_ok-tried.ensures
    (rw c.in_ok-near.ensures refl)
