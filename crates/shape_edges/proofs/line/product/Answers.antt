use Rattle.std.proofs.Common.{◌*◌, arith, lit<, FitsSigned}
use Rattle.std.specs.Prelude.{◌*ℤ◌, unsigned_abs}
use Rattle.std.specs.Int.{w64}
use Rattle.std.proofs.lemmas.Int.{to_z-of_z, fits_signed_mul, unsigned_abs-mul}
use Rattle.std.proofs.lemmas.Nat.{mul-le}
use Rattle.shape_terms.specs.Limits.{most_flat, line_gap}
use Rattle.shape_edges.proofs.line.product.Goals as goal

pub returns : goal.returns
returns c =
    let f = c.ranges.a in
    let g = c.ranges.x in
    let q : FitsSigned w64 (c.args.a *ℤ c.args.x) = fits_signed_mul w64 c.args.a c.args.x (2 * line_gap) most_flat c.requires.a_small c.requires.x_small
    (lit< tt) in
    let m = mul-le (unsigned_abs c.args.a) (unsigned_abs c.args.x) (2 * line_gap) most_flat c.requires.a_small c.requires.x_small in
    let e = unsigned_abs-mul c.args.a c.args.x in
    record { value = simp to_z-of_z; small = simp to_z-of_z (omega (arith, e, m)) }
