use Rattle.std.proofs.Common.{arith}
use Rattle.shape_terms.specs.Points.{AreSides}
use Rattle.shape_terms.proofs.Boxes.{some_points, few_points}
use Rattle.shape_space.proofs.sides.Sides.try_new.Goals as goal

pub invariant_of-result : goal.invariant_of-result
invariant_of-result g c =
    let n = g.P.Point.coords c.args.p in
    let most = g.P.Point.MAX_SIDE in
    let a = g.met.P.Point.axes c.args.p in
    let sides : AreSides most n = λ k l. c.loop-k.invariant k (omega arith) in
    record {
      in_range = sides;
      some = some_points most n sides;
      few = few_points most n sides g.met.P.Point.flat_side (rw a g.met.P.Point.two_or_three) (rw a g.met.P.Point.solid_side);
    }
