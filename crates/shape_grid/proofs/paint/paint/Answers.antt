use Rattle.std.proofs.Common.{◌≡◌, ◌+◌, ◌*◌, ◌/◌, get_or, ap, ◌∙◌, arith}
use Rattle.shape_terms.specs.Points.{box_count}
use Rattle.shape_grid.specs.Painting.{painted}
use Rattle.shape_grid.proofs.BoxRows.{some_axis, rows_are}
use Rattle.shape_grid.proofs.Spans.{untouched, joined_spans}
use Rattle.shape_grid.proofs.paint.paint.Goals as goal

pub loop-row-init : goal.loop-row-init
loop-row-init g c =
    let X = c.args.grid.now in
    let b = c.args.ball.now in
    let e : 0 ≡ 0 * get_or X.sides 0 0 = omega arith in
    untouched (g.P.Point.coords b.centre) b.radius b.object X 0 c.sides.ensures.picture.filled ∙ ap (painted X (g.P.Point.coords b.centre) b.radius b.object 0)
    e

pub loop-row-preserved : goal.loop-row-preserved
loop-row-preserved g c =
    let X = c.args.grid.now in
    let b = c.args.ball.now in
    let w = get_or X.sides 0 0 in
    let row = c.loop-row.row in
    let h = rw c.loop-row.invariant at c.paint_row.ensures in
    h ∙ joined_spans (g.P.Point.coords b.centre) b.radius b.object X 0 (row * w) ((row + 1) * w) (omega arith) (omega arith)

pub returns : goal.returns
returns g c =
    let X = c.args.grid.now in
    let b = c.args.ball.now in
    let one = some_axis g.P.Point.DIM g.met.P.Point.two_or_three in
    let last : c.loop-row.row ≡ c.count.result / c.width.result = omega arith in
    let count = c.count.ensures.value ∙ ap box_count c.sides.ensures.value in
    let rows = last ∙ (λ i. count i / c.width.ensures.value i) in
    c.loop-row.invariant ∙ ap (painted X (g.P.Point.coords b.centre) b.radius b.object 0)
    (rows_are X.sides c.loop-row.row (omega (arith, one, c.sides.ensures.picture.axes)) (omega (arith, c.width.ensures.value, c.width.ensures.some)) rows)
