use Rattle.std.proofs.Common.{◌≡◌, ◌+◌, arith, sym, ap, subst}
use Rattle.shape_terms.specs.Points.{sides_of, box_count}
use Rattle.measuring.specs.MinkowskiSoFar.{AreSoFar}
use Rattle.measuring.proofs.Counting.{numbers_are}
use Rattle.measuring.proofs.numbers_of_objects.numbers.Goals as goal

pub loop-i-init : goal.loop-i-init
loop-i-init g c = c.in_ok-all.ensures (sides_of (g.P.Point.coords c.in_ok-near.near.sides.lengths)) (g.L.Labelling.labels c.args.labels.now)

pub add_point-requires-clause-so_far : goal.add_point-requires-clause-so_far
add_point-requires-clause-so_far g c =
    subst (λ n. AreSoFar (sides_of (g.P.Point.coords c.in_ok-near.near.sides.lengths)) (g.L.Labelling.labels c.args.labels.now) n c.loop-i.i c.loop-i.all.items)
    (sym c.loop-i.invariant.count) c.loop-i.invariant

pub loop-i-preserved : goal.loop-i-preserved
loop-i-preserved g c =
    subst (λ n. AreSoFar (sides_of (g.P.Point.coords c.in_ok-near.near.sides.lengths)) (g.L.Labelling.labels c.args.labels.now) n (c.loop-i.i + 1)
    c.add_point.new.all.items) c.loop-i.invariant.count c.add_point.ensures

pub returns-clause-all : goal.returns-clause-all
returns-clause-all g c =
    let sides = sides_of (g.P.Point.coords c.args.sides.lengths) in
    let labels = g.L.Labelling.labels c.args.labels.now in
    let same = ap (λ s. sides_of (g.P.Point.coords s.lengths)) c.in_ok-near.ensures in
    let last : c.loop-i.i ≡ box_count sides = omega (arith, c.count-i-end.ensures.value, c.loop-i-test.false, c.loop-i.auto.i-end) in
    numbers_are sides labels c.args.count c.loop-i.i c.loop-i.all.items last
    (subst (λ s. AreSoFar s labels c.args.count c.loop-i.i c.loop-i.all.items) same c.loop-i.invariant)

pub returns-clause-count : goal.returns-clause-count
returns-clause-count g c = c.loop-i.invariant.count
