use Rattle.std.proofs.Common.{◌≡◌, ◌-◌, ◌-ℤ◌, arith, rules, FitsSigned, w32}
use Rattle.std.proofs.lemmas.Int.{to_z-of_z}
use Rattle.std.specs.Prelude.{nat_abs}
use Rattle.shape_terms.specs.Points.{coordinate}
use Rattle.shape_terms.proofs.SquaredDistances.{squared_distance-more, square_apart}
use Rattle.shape_space.proofs.frame.squared_distance.Goals as goal

pub loop-k-preserved : goal.loop-k-preserved
loop-k-preserved g c =
    let p = g.P.Point.coords c.args.p in
    let q = g.P.Point.coords c.args.q in
    let j = c.loop-k.k - 1 in
    let a = g.met.P.Point.axes c.args.p in
    let b = g.met.P.Point.axes c.args.q in
    let f : FitsSigned w32 c.coord.result = search rules in
    let f2 : FitsSigned w32 c.coord-in-loop-k.result = search rules in
    let is : c.abs_diff-gap.result ≡ nat_abs (coordinate p j -ℤ coordinate q j) =
    rw (to_z-of_z w32 c.coord.result f, to_z-of_z w32 c.coord-in-loop-k.result f2, c.coord.ensures, c.coord-in-loop-k.ensures) at c.abs_diff-gap.ensures in (
      squared_distance-more p q c.loop-k.k j c.loop-k.s c.abs_diff-gap.result (omega arith) (omega arith) (omega arith) is c.loop-k.invariant.0,
      omega (
        arith,
        c.loop-k.invariant.1,
        square_apart (coordinate p j) (coordinate q j) c.abs_diff-gap.result is (c.requires.near j (omega arith))
            (c.requires.far j (omega arith)),
      ),
    )
