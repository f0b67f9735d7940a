use Rattle.std.proofs.Common.{◌≡◌, subst, arith}
use Rattle.measuring.specs.MomentsSoFar.{AreMomentsSoFar}
use Rattle.measuring.specs.MomentsTold.{moments_told, all_told}
use Rattle.measuring.proofs.RowsTold.{one_empty_more}
use Rattle.measuring.proofs.moments_of_objects.no_points.Goals as goal

pub loop-i-preserved : goal.loop-i-preserved
loop-i-preserved c = λ sides labels.
    one_empty_more moments_told sides labels c.loop-i.all.items _ c.none.result c.loop-i._i (c.loop-i.invariant sides labels) c.none.ensures
    c.in_ok-push.ensures.items

pub returns : goal.returns
returns c = λ sides labels.
    let e : c.loop-i._i ≡ c.args.count = omega arith in
    subst (λ n. AreMomentsSoFar sides labels n 0 (all_told c.loop-i.all.items)) e (c.loop-i.invariant sides labels)
