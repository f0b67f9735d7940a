use Rattle.std.proofs.Common.{rules, refl, ◌≡◌, ◌∙◌, ◌*◌, ◌≤◌, arith, FitsSigned}
use Rattle.std.specs.Int.{w128}
use Rattle.std.specs.Prelude.{nat_abs}
use Rattle.std.proofs.lemmas.Int.{ints, to_z-of_z}
use Rattle.measure_terms.specs.Ellipse as Terms
use Rattle.measuring.specs.MomentsFitting.{most_entry, AreSmall}
use Rattle.measuring.specs.MomentsTold.{moments_told}
use Rattle.measuring.proofs.MomentBounds.{moment_small, product_small, small_entry}
use Rattle.measuring.proofs.moments.Moments.matrix.Goals as goal

pub twelve-requires-4 : goal.twelve-requires-4
twelve-requires-4 c =
    let m = c.args.self.now in
    small_entry m.count (m.x * m.y) m.fits.points (product_small m.x m.y m.count m.fits.along_x m.fits.along_y)

pub difference-requires-3-clause-b_small : goal.difference-requires-3-clause-b_small
difference-requires-3-clause-b_small c =
    let m = c.args.self.now in
    let s = small_entry m.count (m.x * m.y) m.fits.points (product_small m.x m.y m.count m.fits.along_x m.fits.along_y) in
    omega (arith, s, c.twelve-4.ensures)

pub invariant_of-result : goal.invariant_of-result
invariant_of-result c =
    let m = c.args.self.now in
    let n = m.count in
    let f : FitsSigned w128 c.difference.result = search rules in
    let g : FitsSigned w128 c.difference-2.result = search rules in
    let h : FitsSigned w128 c.difference-3.result = search rules in
    let xx = moment_small n m.xx m.fits.along_xx in
    let yy = moment_small n m.yy m.fits.along_yy in
    let xy = moment_small n m.xy m.fits.along_xy in
    let sx = product_small m.x m.x n m.fits.along_x m.fits.along_x in
    let sy = product_small m.y m.y n m.fits.along_y m.fits.along_y in
    let sxy = product_small m.x m.y n m.fits.along_x m.fits.along_y in
    let a : nat_abs c.difference.result ≤ 2 * most_entry * (n * n) =
    omega (arith, ints, c.difference.ensures, c.twelve.ensures, c.twelve-2.ensures, c.twelve-x.ensures, c.twelve-y.ensures, xx, yy, sx, sy) in
    let b : nat_abs c.difference-2.result ≤ 2 * most_entry * (n * n) =
    omega (arith, ints, c.difference-2.ensures, c.twelve.ensures, c.twelve-2.ensures, c.twelve-x.ensures, c.twelve-y.ensures, xx, yy, sx, sy) in
    let d : nat_abs c.difference-3.result ≤ 2 * most_entry * (n * n) =
    omega (arith, ints, c.difference-3.ensures, c.twelve-3.ensures, c.twelve-4.ensures, xy, sxy) in
    let small : AreSmall n c.difference.result c.difference-2.result c.difference-3.result =
    record { points = m.fits.points; small_trace = a; small_x = b; small_y = d } in
    record { small = rw (to_z-of_z w128 c.difference.result f, to_z-of_z w128 c.difference-2.result g, to_z-of_z w128 c.difference-3.result h) small }

pub returns : goal.returns
returns c =
    let m = moments_told c.args.self.now in
    let f : FitsSigned w128 c.difference.result = search rules in
    let g : FitsSigned w128 c.difference-2.result = search rules in
    let h : FitsSigned w128 c.difference-3.result = search rules in
    let a : c.difference.result ≡ Terms.trace m =
    omega (arith, ints, c.difference.ensures, c.twelve.ensures, c.twelve-2.ensures, c.twelve-x.ensures, c.twelve-y.ensures) in
    let b : c.difference-2.result ≡ Terms.double_x m =
    omega (arith, ints, c.difference-2.ensures, c.twelve.ensures, c.twelve-2.ensures, c.twelve-x.ensures, c.twelve-y.ensures) in
    let d : c.difference-3.result ≡ Terms.double_y m = omega (arith, ints, c.difference-3.ensures, c.twelve-3.ensures, c.twelve-4.ensures) in
    record {
      count = refl;
      trace = to_z-of_z w128 c.difference.result f ∙ a;
      double_x = to_z-of_z w128 c.difference-2.result g ∙ b;
      double_y = to_z-of_z w128 c.difference-3.result h ∙ d;
    }
