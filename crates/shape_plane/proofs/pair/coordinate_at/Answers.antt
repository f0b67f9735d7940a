use Rattle.std.proofs.Common.{rules, arith, FitsSigned, w32, sym, subst, ap, ◌∙◌, pos, ◌≤ℤ◌, ◌-ℤ◌, ℤ}
use Rattle.std.proofs.lemmas.Int.{to_z-of_z}
use Rattle.shape_terms.specs.Points.{Point, coordinate}
use Rattle.shape_plane.proofs.Gaps.{within, past, point_read}
use Rattle.shape_plane.proofs.pair.coordinate_at.Goals as goal

pub returns-then-k-DIM : goal.returns-then-k-DIM
returns-then-k-DIM g c =
    let f : FitsSigned w32 c.coord.result = search rules in
    let e = c.coord.ensures
    ∙ ap (λ (p : Point). coordinate p c.args.k)
    (sym (point_read g.P.Point.coords c.args.points.now c.args.place c.index-points-place.result c.index-points-place.is c.requires.place)) in
    let w = within g.P.Point.coords g.P.Point.DIM g.P.Point.MAX_SIDE c.args.points.now c.args.place c.args.k g.met.P.Point.axes c.requires.place
    (let t = c.if-k-DIM.true in let d = c.DIM.ensures in omega (arith, t, d)) c.requires.inside in
    simp to_z-of_z (record {
      value = e;
      low = subst (λ (v : ℤ). pos 0 ≤ℤ v) (sym e) w.0;
      high = subst (λ (v : ℤ). v ≤ℤ (g.P.Point.MAX_SIDE -ℤ pos 1)) (sym e)
          w.1;
    })

pub returns-else-k-DIM-clause-value : goal.returns-else-k-DIM-clause-value
returns-else-k-DIM-clause-value g c =
    sym (past g.P.Point.coords g.P.Point.DIM c.args.points.now c.args.place c.args.k g.met.P.Point.axes c.requires.place
    (let t = c.if-k-DIM.false in let d = c.DIM.ensures in omega (arith, t, d)))
