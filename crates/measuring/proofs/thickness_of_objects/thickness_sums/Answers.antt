use Rattle.std.proofs.Common.{◌≡◌, arith, subst}
use Rattle.shape_terms.specs.Points.{sides_of, box_count}
use Rattle.measuring.specs.ThicknessSoFar.{AreSumsSoFar}
use Rattle.measuring.proofs.thickness_of_objects.thickness_sums.Goals as goal

pub returns : goal.returns
returns g c =
    let sides = sides_of (g.P.Point.coords c.args.sides.lengths) in
    let last : c.loop-i.i ≡ box_count sides = omega (arith, c.count-i-end.ensures.value, c.loop-i-test.false, c.loop-i.auto.i-end) in
    let h = subst (λ i. AreSumsSoFar c.args.labels.now c.args.count c.args.thicknesses.now i c.loop-i.all.items) last c.loop-i.invariant in
    record { count = h.count; each = h.each }
