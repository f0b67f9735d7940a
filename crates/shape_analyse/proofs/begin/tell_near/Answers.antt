use Rattle.std.proofs.Common.{subst}
use Rattle.report_terms.specs.Lines.{Line, line_text}
use Rattle.report_text.specs.Telling.{TellsMore}
use Rattle.shape_terms.proofs.FramedBoxes.{box_point_within}
use Rattle.shape_analyse.proofs.Growth.{near_fits}
use Rattle.shape_analyse.proofs.begin.tell_near.Goals as goal

pub squared_distance-requires-clause-near : goal.squared_distance-requires-clause-near
squared_distance-requires-clause-near g c = box_point_within g.P.Point.MAX_SIDE (g.P.Point.coords c.args.sides.lengths) (g.P.Point.coords c.args.p)
    c.args.sides.in_range g.met.P.Point.flat_side c.requires.inside

pub line-requires : goal.line-requires
line-requires g c =
    let p = g.P.Point.coords c.args.p in
    let q = g.P.Point.coords c.args.q in
    let within = box_point_within g.P.Point.MAX_SIDE (g.P.Point.coords c.args.sides.lengths) p c.args.sides.in_range g.met.P.Point.flat_side c.requires.inside
    in
    rw c.squared_distance.ensures
    (near_fits g.P.Point.DIM p q c.requires.few (g.met.P.Point.axes c.args.p) (g.met.P.Point.axes c.args.q) within c.requires.within)

pub returns-clause-told : goal.returns-clause-told
returns-clause-told g c =
    let s = g.D.Desk.state in
    let p = g.P.Point.coords c.args.p in
    let q = g.P.Point.coords c.args.q in
    subst (λ n. TellsMore (line_text (Line.Near p q n)) c.args.page.now c.line.new.self (s c.args.desk.now) (s c.line.new.desk)) c.squared_distance.ensures
    c.line.ensures

pub returns-clause-fields : goal.returns-clause-fields
returns-clause-fields g c =
    let p = g.P.Point.coords c.args.p in
    let q = g.P.Point.coords c.args.q in
    let within = box_point_within g.P.Point.MAX_SIDE (g.P.Point.coords c.args.sides.lengths) p c.args.sides.in_range g.met.P.Point.flat_side c.requires.inside
    in
    near_fits g.P.Point.DIM p q c.requires.few (g.met.P.Point.axes c.args.p) (g.met.P.Point.axes c.args.q) within c.requires.within
