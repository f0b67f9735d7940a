use Rattle.std.proofs.Common.{rules, FitsSigned}
use Rattle.std.specs.Int.{w64}
use Rattle.std.proofs.lemmas.Int.{to_z-of_z}
use Rattle.shape_plane.proofs.Meeting.{slopes_x, slopes_y, slopes_z}
use Rattle.shape_plane.proofs.answer.slopes_of.Goals as goal

pub returns-then-axis-eq0 : goal.returns-then-axis-eq0
returns-then-axis-eq0 g c =
    let f1 : FitsSigned w64 c.args.s.a = search rules in
    let f2 : FitsSigned w64 c.args.s.b = search rules in
    let f3 : FitsSigned w64 c.args.s.c = search rules in
    let f4 : FitsSigned w64 c.third-b.result = search rules in
    simp to_z-of_z (slopes_x g.P.Point.DIM c.args.axis c.args.s c.third-b.result g.met.P.Point.two_or_three c.if-axis-eq0.true
    (λ e. simp to_z-of_z at (c.third-b.ensures.solid e)) c.third-b.ensures.flat)

pub returns-then-axis-eq1 : goal.returns-then-axis-eq1
returns-then-axis-eq1 g c =
    let f1 : FitsSigned w64 c.args.s.a = search rules in
    let f2 : FitsSigned w64 c.args.s.b = search rules in
    let f3 : FitsSigned w64 c.args.s.c = search rules in
    let f4 : FitsSigned w64 c.third-b.result = search rules in
    simp to_z-of_z (slopes_y g.P.Point.DIM c.args.axis c.args.s c.third-b.result g.met.P.Point.two_or_three c.if-axis-eq1.true
    (λ e. simp to_z-of_z at (c.third-b.ensures.solid e)) c.third-b.ensures.flat)

pub returns-else-axis-eq1 : goal.returns-else-axis-eq1
returns-else-axis-eq1 g c =
    let f1 : FitsSigned w64 c.args.s.a = search rules in
    let f2 : FitsSigned w64 c.args.s.b = search rules in
    let f3 : FitsSigned w64 c.args.s.c = search rules in
    let f4 : FitsSigned w64 c.third-b.result = search rules in
    simp to_z-of_z (slopes_z g.P.Point.DIM c.args.axis c.args.s c.third-b.result g.met.P.Point.two_or_three c.requires c.if-axis-eq0.false c.if-axis-eq1.false
    (λ e. simp to_z-of_z at (c.third-b.ensures.solid e)))
