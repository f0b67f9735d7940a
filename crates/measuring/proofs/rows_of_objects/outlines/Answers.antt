use Rattle.std.proofs.Common.{◌≡◌, subst, arith}
use Rattle.shape_terms.specs.Points.{sides_of}
use Rattle.measuring.specs.FeretsTold.{flat}
use Rattle.measuring.specs.Seen.{HaveRows}
use Rattle.measuring.proofs.rows_of_objects.outlines.Goals as goal

pub returns : goal.returns
returns c =
    let sides = sides_of (flat c.args.sides.lengths) in
    let count = c.count-i-end.ensures.value in
    let e : c.loop-i.i ≡ c.count-i-end.result = omega arith in
    subst (λ i. HaveRows sides c.args.labels.now c.args.count i c.loop-i.all.items) count
    (subst (λ i. HaveRows sides c.args.labels.now c.args.count i c.loop-i.all.items) e c.loop-i.invariant)
