use Rattle.std.proofs.Common.{◌≡◌, subst, arith}
use Rattle.shape_terms.specs.Points.{sides_of, box_count}
use Rattle.measuring.specs.Stretches.{HaveStretches}
use Rattle.measuring.proofs.gather.stretches.Goals as goal

pub loop-i-init : goal.loop-i-init
loop-i-init g c = c.in_ok-all.ensures c.width-width.result c.args.labels.now

pub returns : goal.returns
returns g c =
    let sides = sides_of (g.P.Point.coords c.args.sides.lengths) in
    let all = c.loop-i.all.items in
    let last : c.loop-i.i ≡ box_count sides = omega (arith, c.count-i-end.ensures.value, c.loop-i-test.false, c.loop-i.auto.i-end) in
    subst (λ w. HaveStretches w c.args.labels.now c.args.count (box_count sides) all) c.width-width.ensures.value
    (subst (λ i. HaveStretches c.width-width.result c.args.labels.now c.args.count i all) last c.loop-i.invariant)
