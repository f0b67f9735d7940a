use Rattle.std.proofs.Common.{◌≡◌, ◌+◌, arith, sym, subst}
use Rattle.shape_terms.specs.Points.{sides_of, box_count}
use Rattle.measuring.specs.MomentsSoFar.{AreMomentsSoFar}
use Rattle.measuring.specs.MomentsTold.{moments_told, all_told}
use Rattle.measuring.proofs.PointsRead.{moments_are}
use Rattle.measuring.proofs.RowsTold.{rows_count}
use Rattle.measuring.proofs.moments_of_objects.second_moments.Goals as goal

pub loop-i-init : goal.loop-i-init
loop-i-init g c = c.in_ok-all.ensures (sides_of (g.P.Point.coords c.args.sides.lengths)) c.args.labels.now

pub add_point-requires-clause-so_far : goal.add_point-requires-clause-so_far
add_point-requires-clause-so_far g c =
    let sides = sides_of (g.P.Point.coords c.args.sides.lengths) in
    let count = rows_count moments_told sides c.args.labels.now c.loop-i.all.items c.args.count c.loop-i.i c.loop-i.invariant in
    subst (λ n. AreMomentsSoFar sides c.args.labels.now n c.loop-i.i (all_told c.loop-i.all.items)) (sym count) c.loop-i.invariant

pub loop-i-preserved : goal.loop-i-preserved
loop-i-preserved g c =
    let sides = sides_of (g.P.Point.coords c.args.sides.lengths) in
    let count = rows_count moments_told sides c.args.labels.now c.loop-i.all.items c.args.count c.loop-i.i c.loop-i.invariant in
    subst (λ n. AreMomentsSoFar sides c.args.labels.now n (c.loop-i.i + 1) (all_told c.add_point.new.all.items)) count c.add_point.ensures

pub returns-clause-all : goal.returns-clause-all
returns-clause-all g c =
    let sides = sides_of (g.P.Point.coords c.args.sides.lengths) in
    let last : c.loop-i.i ≡ box_count sides = omega (arith, c.count-i-end.ensures.value, c.loop-i-test.false, c.loop-i.auto.i-end) in
    moments_are sides c.args.labels.now c.args.count c.loop-i.i (all_told c.loop-i.all.items) c.loop-i.invariant last

pub returns-clause-count : goal.returns-clause-count
returns-clause-count g c = rows_count moments_told (sides_of (g.P.Point.coords c.args.sides.lengths)) c.args.labels.now c.loop-i.all.items c.args.count
    c.loop-i.i c.loop-i.invariant
