use Rattle.std.proofs.Common.{◌≡◌, ◌+◌, ◌-◌, ◌<◌, ◌≤◌, ◌^◌, ℕ, List, arith, sym, Fits, w32}
use Rattle.shape_terms.specs.Limits.{most_framed}
use Rattle.shape_terms.specs.Points.{sides_of, box_count, raster_point}
use Rattle.shape_terms.specs.FramedBox.{framed_sides}
use Rattle.shape_terms.proofs.Boxes.{raster_point_in}
use Rattle.shape_terms.proofs.FramedEnds.{in_box_in_frame}
use Rattle.shape_terms.proofs.FramedNumbers.{framed_number_below}
use Rattle.shape_adj.specs.Rows.{placed, IsRow}
use Rattle.shape_check.proofs.distances.number_in.Goals as goal

-- the place of a point of a row, which is one of the framed box
within : (sides : List ℕ) (first end place i : ℕ) → i < box_count sides → box_count (framed_sides sides) ≤ most_framed → first ≤ i → i < end
    → IsRow sides first end place → place + (i - first) < 2 ^ 32
within sides first end place i l few from behind row =
    let e = row.each i from behind in
    let b = framed_number_below sides (raster_point sides i) (in_box_in_frame sides (raster_point sides i) (raster_point_in sides i l)) in
    omega (arith, e, b)

pub overflow_add-result : goal.overflow_add-result
overflow_add-result g c =
    let r = c.requires in
    let row = c.args.row in
    record { fits = within (sides_of (g.P.Point.coords c.args.sides.now.lengths)) row.first row.end row.place c.args.i r.point r.few r.from r.behind r.row }

pub returns : goal.returns
returns g c = sym (c.requires.row.each c.args.i c.requires.from c.requires.behind)
