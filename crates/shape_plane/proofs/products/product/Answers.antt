use Rattle.std.proofs.Common.{arith, ℕ, ◌≤◌, ◌*◌, lit<, FitsSigned}
use Rattle.std.specs.Prelude.{◌*ℤ◌, unsigned_abs}
use Rattle.std.specs.Int.{w64}
use Rattle.std.proofs.lemmas.Int.{to_z-of_z, fits_signed_mul, unsigned_abs-mul}
use Rattle.std.proofs.lemmas.Nat.{mul-le}
use Rattle.shape_terms.specs.Limits.{plane_row, plane_span}
use Rattle.shape_plane.proofs.products.product.Goals as goal

pub returns : goal.returns
returns c =
    let f = c.ranges.a in
    let g = c.ranges.b in
    let q : FitsSigned w64 (c.args.a *ℤ c.args.b) = fits_signed_mul w64 c.args.a c.args.b plane_span (2 * plane_row) c.requires.a_small c.requires.b_small
    (lit< tt) in
    let m = mul-le (unsigned_abs c.args.a) (unsigned_abs c.args.b) plane_span (2 * plane_row) c.requires.a_small c.requires.b_small in
    let e = unsigned_abs-mul c.args.a c.args.b in
    let size : (m n : ℕ) → unsigned_abs c.args.a ≤ m → unsigned_abs c.args.b ≤ n
    → unsigned_abs (c.args.a *ℤ c.args.b) ≤ m * n =
    λ m n h k. (let p = mul-le (unsigned_abs c.args.a) (unsigned_abs c.args.b) m n h k in omega (arith, e, p)) in
    record { value = simp to_z-of_z; size = simp to_z-of_z size; small = simp to_z-of_z (omega (arith, e, m)) }
