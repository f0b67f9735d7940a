use Rattle.std.proofs.Common.{◌≡◌, ap, arith}
use Rattle.std.proofs.lemmas.Int.{ints}
use Rattle.measure_terms.specs.Hulls.{Corner, vertex, end}
use Rattle.measuring.specs.Corners.{corners}
use Rattle.measuring.proofs.size.step_right.Goals as goal

pub returns : goal.returns
returns c =
    let h = corners c.args.round.now in
    let from : c.vertex-from.result.x ≡ (vertex h c.args.i).x = ap (λ (z : Corner). z.x) c.vertex-from.ensures.is in
    let to : c.end-to.result.x ≡ (end h c.args.i).x = ap (λ (z : Corner). z.x) c.end-to.ensures.is in
    let step = c.short_step.ensures in
    omega (arith, ints, from, to, step)
