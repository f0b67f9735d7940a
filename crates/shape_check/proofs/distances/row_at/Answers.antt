use Rattle.shape_terms.specs.Points.{sides_of}
use Rattle.shape_terms.proofs.FramedEnds.{in_box_in_frame}
use Rattle.shape_check.proofs.distances.row_at.Goals as goal

pub framed_number-requires : goal.framed_number-requires
framed_number-requires g c =
    in_box_in_frame (sides_of (g.P.Point.coords c.args.sides.now.lengths)) (g.P.Point.coords c.unraster.result) c.unraster.ensures.inside

pub returns-clause-row : goal.returns-clause-row
returns-clause-row g c = rw (c.framed_number.ensures, c.unraster.ensures.value) c.end_in_row.ensures.row
