use Rattle.std.proofs.Common.{◌≡◌, length, subst, arith}
use Rattle.measuring.specs.Corners.{corners}
use Rattle.measuring.specs.Chains.{IsSide}
use Rattle.measuring.proofs.chain.chain.Goals as goal

pub returns-clause-side : goal.returns-clause-side
returns-clause-side c = λ up. (
    let t = c.loop-at-test.false in
    let e : c.loop-at.at ≡ length c.args.points.now = omega arith in
    subst (λ n. IsSide up (corners c.args.points.now) n (corners c.loop-at.chain.items)) e (c.loop-at.invariant.side up))
