use Rattle.std.proofs.Common.{◌≡◌, ◌+◌, List, arith, sym, subst}
use Rattle.measuring.specs.declared.numbers.Minkowski.{Minkowski}
use Rattle.measuring.specs.MinkowskiSoFar.{AreSoFar}
use Rattle.measuring.proofs.Counting.{nothing_more}
use Rattle.measuring.proofs.numbers_of_objects.no_points.Goals as goal

pub loop-i-preserved : goal.loop-i-preserved
loop-i-preserved c = λ sides labels. subst (λ (xs : List Minkowski). AreSoFar sides labels (c.loop-i._i + 1) 0 xs) (sym c.in_ok-push.ensures.items)
    (nothing_more sides labels c.loop-i.all.items c.loop-i._i (c.loop-i.invariant sides labels))

pub returns : goal.returns
returns c = λ sides labels.
    let e : c.loop-i._i ≡ c.args.count = omega arith in
    subst (λ n. AreSoFar sides labels n 0 c.loop-i.all.items) e (c.loop-i.invariant sides labels)
