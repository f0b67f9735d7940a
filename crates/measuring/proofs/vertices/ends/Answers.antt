use Rattle.std.proofs.Common.{◌≡◌, length, subst, sym, arith}
use Rattle.shape_terms.specs.Points.{sides_of}
use Rattle.measuring.specs.Layers.{AreEnds}
use Rattle.measuring.proofs.LayersPut.{no_ends}
use Rattle.measuring.proofs.vertices.ends.Goals as goal

pub loop-at-init : goal.loop-at-init
loop-at-init g c =
    let sides = sides_of (g.P.Point.coords c.args.sides.lengths) in
    subst (AreEnds sides c.args.stretches.now 0) (sym c.new-all.ensures.items) (no_ends sides c.args.stretches.now)

pub loop-at-preserved : goal.loop-at-preserved
loop-at-preserved g c = c.in_ok-put_ends.ensures c.loop-at.invariant

pub returns : goal.returns
returns g c =
    let sides = sides_of (g.P.Point.coords c.args.sides.lengths) in
    let e : c.loop-at.at ≡ length c.args.stretches.now = omega arith in
    subst (λ n. AreEnds sides c.args.stretches.now n c.loop-at.all.items) e c.loop-at.invariant
