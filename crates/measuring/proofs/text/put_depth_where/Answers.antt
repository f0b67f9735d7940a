use Rattle.std.proofs.Common.{◌≡◌, ◌++◌, Bool, subst, sym}
use Rattle.std.specs.Prelude.{OnOk}
use Rattle.shape_terms.specs.Points.{sides_of}
use Rattle.measure_terms.specs.Texts.{depth_text}
use Rattle.measuring.specs.Told.{measures_told}
use Rattle.measuring.proofs.text.put_depth_where.Goals as goal

pub returns-else-told : goal.returns-else-told
returns-else-told g c =
    let m = measures_told (sides_of (g.P.Point.coords c.args.sides.lengths)) c.args.m.now in
    subst (λ (b : Bool). OnOk c.put_no_depth.result (c.put_no_depth.new.csv ≡ c.args.csv.now ++ depth_text b g.P.Point.DIM m)) (sym c.if-told.false)
    (c.put_no_depth.ensures m)
