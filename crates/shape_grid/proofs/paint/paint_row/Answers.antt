use Rattle.std.proofs.Common.{◌≡◌, ◌+◌, ◌*◌, ◌-ℤ◌, ◌<◌, ◌≤◌, ℤ, pos, negsuc, get_or, set, sym, ap, subst, ◌∙◌, arith, rules, to_z, of_z, w32, FitsSigned}
use Rattle.std.specs.Prelude.{nat_abs}
use Rattle.std.proofs.lemmas.Int.{ints, to_z-of_z}
use Rattle.shape_terms.specs.Limits.{most_coordinate}
use Rattle.shape_terms.specs.Points.{coordinate, sides_of}
use Rattle.shape_terms.specs.FramedBox.{IsWithin}
use Rattle.shape_terms.proofs.FramedBoxes.{box_point_within}
use Rattle.shape_grid.specs.Balls.{covers}
use Rattle.shape_grid.specs.Painting.{painted}
use Rattle.shape_grid.proofs.BoxRows.{some_axis, row_start, row_point, set_within}
use Rattle.shape_grid.proofs.Spans.{untouched, painted_more, row_unreached, row_reached}
use Rattle.shape_grid.proofs.paint.paint_row.Goals as goal

pub covers-requires : goal.covers-requires
covers-requires g c =
    let s = c.sides.result in
    let b = c.args.ball.now in
    let one = some_axis g.P.Point.DIM g.met.P.Point.two_or_three in
    let near = b.near 0 (omega (arith, one, g.met.P.Point.axes b.centre)) in
    let first = box_point_within g.P.Point.MAX_SIDE (g.P.Point.coords s.lengths) (g.P.Point.coords c.unraster-first.result) s.in_range g.met.P.Point.flat_side
    c.unraster-first.ensures.inside in
    subst (IsWithin (negsuc 0) (pos most_coordinate)) (sym c.with.ensures)
    (set_within (negsuc 0) (pos most_coordinate) (g.P.Point.coords c.unraster-first.result) (to_z w32 (of_z w32 c.coord-at.result)) first
    (omega (arith, ints, near.0, c.coord-at.ensures)) (omega (arith, ints, near.1, c.coord-at.ensures)))

pub returns-then-not-covers : goal.returns-then-not-covers
returns-then-not-covers g c =
    let X = c.args.grid.now in
    let b = c.args.ball.now in
    let C = g.P.Point.coords b.centre in
    let row = c.args.row in
    let one = some_axis g.P.Point.DIM g.met.P.Point.two_or_three in
    let fits : FitsSigned w32 c.coord-at.result = search rules in
    let first = row_start (sides_of (g.P.Point.coords c.sides.result.lengths)) X.sides row c.width-width.result (get_or X.sides 0 0)
    (g.P.Point.coords c.unraster-first.result) c.unraster-first.ensures.value c.sides.ensures.value c.width-width.ensures.value in
    let foot = c.with.ensures ∙ ap (λ x. set (g.P.Point.coords c.unraster-first.result) 0 x) (to_z-of_z w32 c.coord-at.result fits ∙ c.coord-at.ensures)
    ∙ ap (λ p. set p 0 (coordinate C 0)) first in
    row_unreached C b.radius b.object X row c.sides.ensures.picture.filled (omega (arith, one, c.sides.ensures.picture.axes))
    (omega (arith, one, g.met.P.Point.axes b.centre))
    (ap (covers C b.radius) (sym foot) ∙ sym c.covers.ensures ∙ c.if-not-covers.true)

pub loop-x-init : goal.loop-x-init
loop-x-init g c =
    let X = c.args.grid.now in
    let b = c.args.ball.now in
    untouched (g.P.Point.coords b.centre) b.radius b.object X (c.args.row * get_or X.sides 0 0 + c.reach-low.result.0) c.sides.ensures.picture.filled

pub loop-x-preserved : goal.loop-x-preserved
loop-x-preserved g c =
    let X = c.args.grid.now in
    let b = c.args.ball.now in
    let row = c.args.row in
    let x = c.loop-x.x in
    let start = row * get_or X.sides 0 0 in
    let low = c.reach-low.result.0 in
    let one = some_axis g.P.Point.DIM g.met.P.Point.two_or_three in
    let below : x < get_or X.sides 0 0 = omega (arith, c.reach-low.ensures.within, c.width-width.ensures.value) in
    let first = row_start (sides_of (g.P.Point.coords c.sides.result.lengths)) X.sides row c.width-width.result (get_or X.sides 0 0)
    (g.P.Point.coords c.unraster-first.result) c.unraster-first.ensures.value c.sides.ensures.value c.width-width.ensures.value in
    let is : to_z w32 x ≡ pos x = omega (arith, ints, c.width-width.ensures.most, c.width-width.ensures.value) in
    let here = c.with-in-loop-x.ensures ∙ ap (λ z. set (g.P.Point.coords c.unraster-first.result) 0 z) is ∙ ap (λ p. set p 0 (pos x)) first
    ∙ sym (row_point X.sides row x (omega (arith, one, c.sides.ensures.picture.axes)) below) in
    let next : start + x + 1 ≡ start + (x + 1) = omega arith in
    painted_more (g.P.Point.coords b.centre) b.radius b.object X c.paint_point.new.grid (start + low) (start + x) (g.P.Point.coords c.with-in-loop-x.result)
    (omega arith) (omega (arith, c.requires)) here (rw c.loop-x.invariant at c.paint_point.ensures)
    ∙ ap (painted X (g.P.Point.coords b.centre) b.radius b.object (start + low)) next

pub paint_point-requires-clause-near : goal.paint_point-requires-clause-near
paint_point-requires-clause-near g c =
    let s = c.sides.result in
    let first = box_point_within g.P.Point.MAX_SIDE (g.P.Point.coords s.lengths) (g.P.Point.coords c.unraster-first.result) s.in_range g.met.P.Point.flat_side
    c.unraster-first.ensures.inside in
    subst (IsWithin (negsuc 0) (pos most_coordinate)) (sym c.with-in-loop-x.ensures)
    (set_within (negsuc 0) (pos most_coordinate) (g.P.Point.coords c.unraster-first.result) (to_z w32 c.loop-x.x) first
    (omega (arith, ints, c.width-width.ensures.most)) (omega (arith, ints, c.width-width.ensures.most)))

pub returns : goal.returns
returns g c =
    let X = c.args.grid.now in
    let b = c.args.ball.now in
    let C = g.P.Point.coords b.centre in
    let row = c.args.row in
    let start = row * get_or X.sides 0 0 in
    let low = c.reach-low.result.0 in
    let high = c.reach-low.result.1 in
    let one = some_axis g.P.Point.DIM g.met.P.Point.two_or_three in
    let fits : FitsSigned w32 c.coord-at.result = search rules in
    let at = to_z-of_z w32 c.coord-at.result fits ∙ c.coord-at.ensures in
    let end : c.loop-x.x ≡ high = omega (arith, c.reach-low.ensures.ordered) in
    c.loop-x.invariant ∙ ap (λ e. painted X C b.radius b.object (start + low) (start + e)) end
    ∙ row_reached C b.radius b.object X row low high (omega (arith, one, c.sides.ensures.picture.axes)) (omega (arith, one, g.met.P.Point.axes b.centre))
    c.reach-low.ensures.ordered (omega (arith, c.reach-low.ensures.within, c.width-width.ensures.value))
    (λ x l n. c.reach-low.ensures.all x (omega (arith, c.width-width.ensures.value)) (subst (λ (z : ℤ). nat_abs (pos x -ℤ z) ≤ b.radius) (sym at) n))
