use Rattle.std.proofs.Common.{arith, subst, sym}
use Rattle.std.proofs.lemmas.Int.{ints}
use Rattle.shape_terms.specs.Points.{sides_of, in_box}
use Rattle.shape_terms.proofs.Boxes.{raster_point_in}
use Rattle.shape_terms.proofs.FramedBoxes.{box_point_within}
use Rattle.std.specs.Prelude.{IsTrue}
use Rattle.measuring.proofs.seen.is_seen.Goals as goal

pub near-requires-clause-within : goal.near-requires-clause-within
near-requires-clause-within g c =
    let s = c.args.near.now.sides in
    let sides = sides_of (g.P.Point.coords s.lengths) in
    let inside = subst (λ p. IsTrue (in_box sides p)) (sym c.requires.point) (raster_point_in sides c.args.i c.requires.below) in
    let w = box_point_within g.P.Point.MAX_SIDE (g.P.Point.coords s.lengths) (g.P.Point.coords c.args.p) s.in_range g.met.P.Point.flat_side inside in
    λ k l. (omega (arith, ints, (w k l).0), (w k l).1)
